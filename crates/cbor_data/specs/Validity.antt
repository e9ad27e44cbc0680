-- Which items are valid: no map has two keys that are the same (RFC 8949 sections 5.3.1 and 5.6), in whatever order the
-- pairs of maps in them come.
use Rattle.std.specs.Prelude.{◌≡◌, ℕ, suc, ◌+◌, ◌≤◌, List, [], ◌∷◌, ◌⊎◌}
use Rattle.cbor_data.specs.Equivalence.{IsSame}
use Rattle.cbor_data.specs.Value.{Value, array, pairs, tag, Values, no_values, value, Pairs, no_pairs, pair, place_count}

-- the key is the same as one of these
abbrev pub IsOneOf : List Value → Value → Type 0
IsOneOf [] k = ⊥
IsOneOf (l ∷ ls) k = IsSame k l ⊎ IsOneOf ls k

-- At this place of the item is a key that is the same as an earlier key of its map.
abbrev mutual
  pub IsRepeatedKey : Value → ℕ → Type 0
  IsRepeatedKey (array xs) i = (j : ℕ) × (i ≡ suc j) × IsRepeatedKeyAmong xs j
  IsRepeatedKey (pairs ps) i = (j : ℕ) × (i ≡ suc j) × IsRepeatedKeyAfter [] ps j
  IsRepeatedKey (tag n x) i = (j : ℕ) × (i ≡ suc j) × IsRepeatedKey x j
  IsRepeatedKey _ i = ⊥

  -- the same, among the members of an array
  pub IsRepeatedKeyAmong : Values → ℕ → Type 0
  IsRepeatedKeyAmong no_values i = ⊥
  IsRepeatedKeyAmong (value x xs) i = IsRepeatedKey x i ⊎ ((j : ℕ) × (i ≡ place_count x + j) × IsRepeatedKeyAmong xs j)

  -- the same, among the pairs of a map whose earlier keys are these
  pub IsRepeatedKeyAfter : List Value → Pairs → ℕ → Type 0
  IsRepeatedKeyAfter earlier no_pairs i = ⊥
  IsRepeatedKeyAfter earlier (pair k v ps) i =
      ((i ≡ 0) × IsOneOf earlier k)
      ⊎ (IsRepeatedKey k i
      ⊎ (((j : ℕ) × (i ≡ place_count k + j) × IsRepeatedKey v j)
      ⊎ ((j : ℕ) × (i ≡ place_count k + (place_count v + j)) × IsRepeatedKeyAfter (k ∷ earlier) ps j)))

-- no map in it has two keys that are the same
abbrev pub IsValid : Value → Type 0
IsValid x = (i : ℕ) → IsRepeatedKey x i → ⊥

-- the least place of a repeated key
pub record IsFirstRepeatedKey (x : Value) (i : ℕ) : Type 0 where
  pub repeated : IsRepeatedKey x i
  pub least : (j : ℕ) → IsRepeatedKey x j → i ≤ j
