-- The places of definitions in their list, by the numbers of names.
use Rattle.std.specs.Prelude.{ℕ, zero, suc, ◌+◌, nat_eq, Bool, true, false, if◌then◌else◌, List, [], ◌∷◌, ◌++◌, map, Option, Some, None, slice_get, vec_items}
use Rattle.std.specs.Global.{Vec}
use Rattle.check_terms.specs.declared.definition.Definition.{Definition}
use Rattle.check_terms.specs.declared.definition.Sign.{Sign}
use Rattle.check_terms.specs.declared.definition.Sign.TheVariants as SignV

-- those of the name, where the list begins at this place
abbrev pub places_from : ℕ → ℕ → List Definition → List ℕ
places_from i k [] = []
places_from i k (d ∷ ds) = if nat_eq d.name k then i ∷ places_from (i + 1) k ds else places_from (i + 1) k ds

abbrev pub places_of : ℕ → List Definition → List ℕ
places_of k ds = places_from 0 k ds

abbrev pub is_equals : Sign → Bool
is_equals SignV.Is = true
is_equals SignV.TypeOr = false
is_equals SignV.GroupOr = false

abbrev pub is_equals_there : Option Definition → Bool
is_equals_there (Some d) = is_equals d.sign
is_equals_there None = false

-- whether the definition at the place is by `=`
abbrev pub is_equals_at : List Definition → ℕ → Bool
is_equals_at ds p = is_equals_there (slice_get ds p)

abbrev pub first_of : List ℕ → Option ℕ
first_of [] = None
first_of (p ∷ ps) = Some p

abbrev pub first_in : Option (List ℕ) → Option ℕ
first_in None = None
first_in (Some ps) = first_of ps

-- the first of the places at which a definition is by `=`
abbrev pub first_equals : List Definition → List ℕ → Option ℕ
first_equals ds [] = None
first_equals ds (p ∷ ps) = if is_equals_at ds p then Some p else first_equals ds ps

-- The places of the definitions that count: each further `=` adds nothing. The flag says that a `=` came before.
abbrev pub counting : List Definition → Bool → List ℕ → List ℕ
counting ds met [] = []
counting ds false (p ∷ ps) = p ∷ counting ds (is_equals_at ds p) ps
counting ds true (p ∷ ps) = if is_equals_at ds p then counting ds true ps else p ∷ counting ds true ps

-- How the places of all names are found: one after the other is added to the list of its name.

abbrev pub lists : List (Vec ℕ) → List (List ℕ)
lists vs = map vec_items vs

abbrev pub no_places : ℕ → List (List ℕ)
no_places zero = []
no_places (suc n) = [] ∷ no_places n

abbrev pub added : ℕ → ℕ → List (List ℕ) → List (List ℕ)
added k p [] = []
added zero p (l ∷ ls) = (l ++ p ∷ []) ∷ ls
added (suc k) p (l ∷ ls) = l ∷ added k p ls

-- those of the definitions, whose list begins at this place, added to these lists
abbrev pub added_all : ℕ → List Definition → List (List ℕ) → List (List ℕ)
added_all i [] ls = ls
added_all i (d ∷ ds) ls = added_all (i + 1) ds (added d.name i ls)
