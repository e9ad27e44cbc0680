-- Where the definitions of each name stand.
use Rattle.std.specs.Prelude.{◌≡◌, ℕ, ◌+◌, false, List, [], ◌∷◌, length, Option, slice_get, Some}
use Rattle.check_terms.specs.declared.definition.Definition.{Definition}
use Rattle.check_names.specs.declared.environment.environment.Name.{Name}
use Rattle.check_names.specs.Environment.Places.{counting, first_equals, first_in, first_of, places_of}

pub record Standing : Type 0 where
  pub known : Option ℕ
  pub first : Option ℕ
  pub first_equals : Option ℕ
  pub counting : List ℕ

abbrev pub standing : Name → Standing
standing n = record { known = n.known; first = n.first; first_equals = n.first_equals; counting = n.counting.items }

-- that of a name whose definitions are at these places of the text's list, with this place in the prelude's
abbrev pub standing_at : List Definition → Option ℕ → List ℕ → Standing
standing_at ds known own = record { known = known; first = first_of own; first_equals = first_equals ds own; counting = counting ds false own }

-- of the names from the number k on, whose places are these
abbrev pub standing_from : ℕ → List Definition → List (List ℕ) → List (List ℕ) → List Standing
standing_from k ds known [] = []
standing_from k ds known (own ∷ further) = standing_at ds (first_in (slice_get known k)) own ∷ standing_from (k + 1) ds known further

-- for each number below the count
pub record AreNames (count : ℕ) (known definitions : List Definition) (names : List Name) : Type 0 where
  pub all : length names ≡ count
  pub each : (k : ℕ) (n : Name) → slice_get names k ≡ Some n → standing n ≡ standing_at definitions (first_of (places_of k known)) (places_of k definitions)
