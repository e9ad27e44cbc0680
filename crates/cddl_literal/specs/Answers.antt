-- What calls answer.
use Rattle.std.specs.Prelude.{ℕ, ◌≤◌, List, length, Option, Some, None}
use Rattle.cddl_literal.specs.Escapes.{Escape as Means}
use Rattle.cddl_literal.specs.declared.Quote.{Quote}
use Rattle.cddl_literal.specs.declared.escapes.Escape.{Escape}

-- the escape at an offset, within the source, or that there is none
abbrev pub IsEscapeAt : Quote → List ℕ → ℕ → Option Escape → Type 0
IsEscapeAt quote s i None = (j v : ℕ) → Means quote s i j v → ⊥
IsEscapeAt quote s i (Some e) = Means quote s i e.end e.scalar × (e.end ≤ length s)
