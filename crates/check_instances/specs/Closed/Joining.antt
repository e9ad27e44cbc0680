-- What a definition's body is as a group.
use Rattle.std.specs.Prelude.{ℕ, List, Option, Some, None, slice_get}
use Rattle.check_terms.specs.declared.row.Form.{Form}
use Rattle.check_terms.specs.declared.row.Form.TheVariants as F
use Rattle.check_terms.specs.declared.row.Row.{Row}

abbrev pub bare_of : Form → Option ℕ → Option ℕ → Option ℕ
bare_of F.Grouped None first = first
bare_of f text first = None

abbrev pub bare_in : Option Row → Option ℕ
bare_in None = None
bare_in (Some r) = bare_of r.form r.text r.first

-- the group in parentheses without an occurrence
abbrev pub bare_at : List Row → ℕ → Option ℕ
bare_at rows n = bare_in (slice_get rows n)
