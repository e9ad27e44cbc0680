-- What parts the members of a list in diagnostic notation.
use Rattle.std.specs.Prelude.{ℕ, zero, suc, List, [], codes}

-- what is before the member at an index
abbrev pub comma : ℕ → List ℕ
comma zero = []
comma (suc i) = codes ", "
