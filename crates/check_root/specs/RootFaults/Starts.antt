-- Where the first rules of the names of instances begin, by the rows of a table, the places of names and where each rule begins.
use Rattle.std.specs.Prelude.{ℕ, Bool, if◌then◌else◌, List, [], ◌∷◌, Option, Some, None, slice_get}
use Rattle.check_terms.specs.declared.row.Row.{Row}
use Rattle.check_terms.specs.Table.{Table}
use Rattle.check_names.specs.declared.environment.environment.Name.{Name}
use Rattle.check_instances.specs.declared.closed.closed.Closed.{Closed}
use Rattle.check_instances.specs.declared.closed.closed.Meaning.{Meaning}
use Rattle.check_root.specs.Least.{least_from}

-- of the rule at this place
abbrev pub place_start : List ℕ → Option ℕ → Option ℕ
place_start starts None = None
place_start starts (Some p) = slice_get starts p

-- of the first rule of the name
abbrev pub name_start : List ℕ → Option Name → Option ℕ
name_start starts None = None
name_start starts (Some v) = place_start starts v.first

abbrev pub number_start : List ℕ → List Name → Option ℕ → Option ℕ
number_start starts names None = None
number_start starts names (Some n) = name_start starts (slice_get names n)

-- of the name in a reference's row
abbrev pub row_start : List ℕ → List Name → Option Row → Option ℕ
row_start starts names None = None
row_start starts names (Some r) = number_start starts names r.text

abbrev pub meaning_start : Table → List ℕ → List Name → Option Meaning → Option ℕ
meaning_start t starts names None = None
meaning_start t starts names (Some m) = row_start starts names (slice_get t.rows m.call)

-- of the name of the instance at this place
abbrev pub start_at : Table → List ℕ → List Name → Closed → ℕ → Option ℕ
start_at t starts names closed k = meaning_start t starts names (slice_get closed.meanings.items k)

abbrev pub start_if : Table → List ℕ → List Name → Closed → ℕ → Bool → Option ℕ
start_if t starts names closed k flag = if flag then start_at t starts names closed k else None

-- where no rule begins, the first byte
abbrev pub or_first_byte : List ℕ → List ℕ
or_first_byte [] = 0 ∷ []
or_first_byte (at ∷ more) = at ∷ more

-- the least of the offsets that flags tell
abbrev pub least_start : Table → List ℕ → List Name → Closed → List Bool → Option ℕ
least_start t starts names closed flags = least_from (start_if t starts names closed) 0 None flags
