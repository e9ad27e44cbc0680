-- How a row's step is found.
use Rattle.std.specs.Prelude.{◌≡◌, ◌||◌, ℕ, suc, List, [], ◌∷◌, ◌++◌, Option, Some, None, if◌then◌else◌, is_some, nat_eq, option_map, slice_get}
use Rattle.cddl_language.specs.Terms.{Text}
use Rattle.check_terms.specs.declared.row.Form.{Form}
use Rattle.check_terms.specs.declared.row.Form.TheVariants as F
use Rattle.check_terms.specs.declared.row.Row.{Row}
use Rattle.check_terms.specs.Filled.{tree_argument}
use Rattle.check_terms.specs.Table.{Table, Tree}
use Rattle.check_terms.specs.declared.fill.template.Step.{Step}
use Rattle.check_terms.specs.Fill.Templates.{at_place}

-- the first place of a number
abbrev pub place_in : List ℕ → ℕ → Option ℕ
place_in [] n = None
place_in (m ∷ ms) n = if nat_eq m n then Some 0 else option_map suc (place_in ms n)

abbrev pub with_place : (ℕ → Option ℕ) → ℕ → ℕ → ℕ → Option ℕ
with_place places m i n = if nat_eq m n then Some i else places n

abbrev pub or_some : Option ℕ → Option ℕ → Option ℕ
or_some (Some i) o = Some i
or_some None o = o

-- the same where a place that was given stays
abbrev pub slot_after : (ℕ → Option ℕ) → ℕ → ℕ → ℕ → Option ℕ
slot_after slots m i n = or_some (slots n) (if nat_eq m n then Some i else None)

-- the argument for each parameter is the one at its slot
abbrev pub AreSlots : Table → List Text → (ℕ → Option ℕ) → Type 0
AreSlots t ps slots = (n : ℕ) (x : Text) → slice_get t.texts n ≡ Some x → (ys : List Tree) → tree_argument ps ys x ≡ at_place ys (slots n)

abbrev pub look_up : (ℕ → Option ℕ) → Option ℕ → Option ℕ
look_up places None = None
look_up places (Some n) = places n

-- the name of a reference without arguments
abbrev pub name_by : Form → Form → Option ℕ → Option ℕ
name_by F.Call F.NoTerms n = n
name_by f g n = None

abbrev pub lone_name : Row → Option Row → Option ℕ
lone_name call None = None
lone_name call (Some arguments) = name_by call.form arguments.form call.text

abbrev pub name_in : List Row → Option Row → Option ℕ
name_in rows None = None
name_in rows (Some call) = lone_name call (at_place rows call.first)

abbrev pub slot_by : Form → Option ℕ → Option ℕ
slot_by F.Named slot = slot
slot_by F.Unwrapped slot = slot
slot_by f slot = None

abbrev pub slot_of : List Row → (ℕ → Option ℕ) → Row → Option ℕ
slot_of rows slots r = slot_by r.form (look_up slots (name_in rows (at_place rows r.first)))

abbrev pub row_step : List Row → (ℕ → Option ℕ) → (ℕ → Option ℕ) → ℕ → Row → Step
row_step rows slots places n r = record { row = n; argument = slot_of rows slots r; first = look_up places r.first; second = look_up places r.second }

-- a step, if it does anything
abbrev pub if_needed : Step → Option Step
if_needed s = if is_some s.argument || is_some s.first || is_some s.second then Some s else None

abbrev pub step_from : List Row → (ℕ → Option ℕ) → (ℕ → Option ℕ) → ℕ → Option Row → Option Step
step_from rows slots places n None = None
step_from rows slots places n (Some r) = if_needed (row_step rows slots places n r)

abbrev pub step_of : List Row → (ℕ → Option ℕ) → (ℕ → Option ℕ) → ℕ → Option Step
step_of rows slots places n = step_from rows slots places n (slice_get rows n)

-- the places and the steps with this one more, if any
abbrev pub places_after : (ℕ → Option ℕ) → ℕ → Option Step → ℕ → Option ℕ
places_after places i None n = places n
places_after places i (Some s) n = with_place places s.row i n

abbrev pub steps_after : List Step → Option Step → List Step
steps_after ss None = ss
steps_after ss (Some s) = ss ++ s ∷ []
