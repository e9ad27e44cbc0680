-- What a step makes of its row.
use Rattle.std.specs.Prelude.{ℕ, List, Option, Some, None, slice_get}
use Rattle.check_terms.specs.declared.row.Row.{Row}
use Rattle.check_terms.specs.declared.fill.template.Step.{Step}

-- a part that was made, or the row's own
abbrev pub part : List ℕ → Option ℕ → Option ℕ → Option ℕ
part made (Some i) own = slice_get made i
part made None own = own

abbrev pub filled_row : Step → Row → List ℕ → Row
filled_row s r made = record { form = r.form; text = r.text; first = part made s.first r.first; second = part made s.second r.second }
