-- What is done with one row.
use Rattle.std.specs.Prelude.{ℕ, Bool, if◌then◌else◌, List, [], ◌∷◌, ◌++◌, map, Option, Some, None, is_some, slice_get}
use Rattle.check_terms.specs.declared.row.Form.{Form}
use Rattle.check_terms.specs.declared.row.Form.TheVariants as F
use Rattle.check_terms.specs.declared.row.Row.{Row}
use Rattle.check_terms.specs.declared.definition.Body.{Body}
use Rattle.check_terms.specs.declared.definition.Body.TheVariants as BodyV
use Rattle.check_names.specs.Environment.Names.{Standing}
use Rattle.check_instances.specs.Calls.{is_call}
use Rattle.check_instances.specs.Marks.{is_new}

abbrev pub with_part : Option ℕ → List ℕ → List ℕ
with_part None ns = ns
with_part (Some n) ns = ns ++ n ∷ []

-- the parts of a row that is no reference are to be visited, too
abbrev pub with_parts : Option Row → List ℕ → List ℕ
with_parts None ns = ns
with_parts (Some r) ns = if is_call r.form then ns else with_part r.second (with_part r.first ns)

abbrev pub with_call : Option Row → ℕ → List ℕ → List ℕ
with_call None n ns = ns
with_call (Some r) n ns = if is_call r.form then ns ++ n ∷ [] else ns

-- what waits, and the references, after a row was taken: one that is marked is not visited again

abbrev pub waiting_after : List Row → List Bool → ℕ → List ℕ → List ℕ
waiting_after rows marks n ns = if is_new marks n then with_parts (slice_get rows n) ns else ns

abbrev pub calls_after : List Row → List Bool → ℕ → List ℕ → List ℕ
calls_after rows marks n ns = if is_new marks n then with_call (slice_get rows n) n ns else ns

abbrev pub row_of : Body → ℕ
row_of (BodyV.Types n) = n
row_of (BodyV.Entry n) = n

abbrev pub with_row : Body → ℕ → Body
with_row (BodyV.Types m) n = BodyV.Types n
with_row (BodyV.Entry m) n = BodyV.Entry n

abbrev pub rows_of : List Body → List ℕ
rows_of bs = map row_of bs

-- the place of the prelude's definition, where it counts: `=` in the text replaces it
abbrev pub kept_place : Standing → Option ℕ
kept_place s = if is_some s.first_equals then None else s.known
