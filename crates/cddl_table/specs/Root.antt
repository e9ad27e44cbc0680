-- The place of the root, by rows.
use Rattle.std.specs.Prelude.{ℕ, nat_eq, Bool, false, true, ◌&&◌, if◌then◌else◌, List, [], ◌∷◌, Option, Some, None, slice_get}
use Rattle.check_terms.specs.declared.row.Form.{Form}
use Rattle.check_terms.specs.declared.row.Form.TheVariants as F
use Rattle.check_terms.specs.declared.row.Row.{Row}
use Rattle.check_instances.specs.declared.closed.closed.Closed.{Closed}
use Rattle.check_instances.specs.declared.closed.closed.Meaning.{Meaning}

abbrev pub is_none : Form → Bool
is_none F.NoTerms = true
is_none _ = false

-- the row is of no arguments
abbrev pub has_none : Option Row → Bool
has_none None = false
has_none (Some r) = is_none r.form

abbrev pub is_root_by : List Row → ℕ → Form → Option ℕ → Option ℕ → Bool
is_root_by rows root F.Call (Some n) (Some i) = nat_eq n root && has_none (slice_get rows i)
is_root_by rows root _ text first = false

-- the row is of the name with this number, without arguments
abbrev pub is_root : List Row → ℕ → Option Row → Bool
is_root rows root None = false
is_root rows root (Some r) = is_root_by rows root r.form r.text r.first

-- the first such row of a reference
abbrev pub root_row : List Row → ℕ → List Meaning → Option ℕ
root_row rows root [] = None
root_row rows root (m ∷ ms) = if is_root rows root (slice_get rows m.call) then Some m.call else root_row rows root ms

abbrev pub there : Option (Option ℕ) → Option ℕ
there None = None
there (Some o) = o

abbrev pub place_at : List (Option ℕ) → Option ℕ → Option ℕ
place_at places None = None
place_at places (Some n) = there (slice_get places n)

abbrev pub root_place : List Row → Closed → ℕ → Option ℕ
root_place rows c root = place_at c.places.items (root_row rows root c.meanings.items)
