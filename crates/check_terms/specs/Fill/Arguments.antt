-- The arguments of a reference, by their rows.
use Rattle.std.specs.Prelude.{ℕ, List, Option, Some, None, slice_get}
use Rattle.check_terms.specs.declared.row.Form.{Form}
use Rattle.check_terms.specs.declared.row.Form.TheVariants as F
use Rattle.check_terms.specs.declared.row.Row.{Row}

-- an argument, and those after it

abbrev pub argument_of : Form → Option ℕ → Option ℕ → Option (ℕ × Option ℕ)
argument_of F.Argument (Some n) further = Some (n, further)
argument_of f first further = None

abbrev pub argument_in : Option Row → Option (ℕ × Option ℕ)
argument_in None = None
argument_in (Some r) = argument_of r.form r.first r.second

abbrev pub argument_at : List Row → Option ℕ → Option (ℕ × Option ℕ)
argument_at rows None = None
argument_at rows (Some n) = argument_in (slice_get rows n)
