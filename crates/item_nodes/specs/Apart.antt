-- When the keys of a map differ: none is the same as another, up to the order of pairs in it.
use Rattle.std.specs.Prelude.{◌≡◌, ℕ, ◌+◌, ◌^◌, List, [], ◌∷◌, map, Bool, true, false, ◌&&◌, ◌||◌}
use Rattle.cbor_data.specs.Same.{same_value}
use Rattle.std.specs.Cmp.Lexicographic.{slice_cmp}
use Rattle.std.specs.Ordering.{nat_cmp}
use Rattle.std.specs.List.{AllAdjacentBelow}
use Rattle.std.specs.declared.cmp.Ordering.TheVariants.{Less}
use Rattle.cbor_data.specs.Validity.{IsOneOf, IsValid}
use Rattle.cbor_data.specs.Value.{Value, uint, nint, bytes, text, array, pairs, tag, Values, no_values, value, Pairs, no_pairs, pair}
use Rattle.item_nodes.specs.View.{view}
use Rattle.item_nodes.specs.declared.item.Item.{Item}

abbrev pub keys_view : List (Item × Item) → List Value
keys_view ps = map (λ p. view p.0) ps

-- no key is the same as one of these or as a key before it
abbrev pub AreKeysApart : List Value → Pairs → Type 0
AreKeysApart earlier no_pairs = Unit {0}
AreKeysApart earlier (pair k v ps) = (IsOneOf earlier k → ⊥) × AreKeysApart (k ∷ earlier) ps

abbrev pub AreValuesValid : Values → Type 0
AreValuesValid no_values = Unit {0}
AreValuesValid (value x xs) = IsValid x × AreValuesValid xs

-- the keys and the values are valid
abbrev pub ArePartsValid : Pairs → Type 0
ArePartsValid no_pairs = Unit {0}
ArePartsValid (pair k v ps) = IsValid k × (IsValid v × ArePartsValid ps)

-- a number that tells integers from each other
abbrev pub number_of : Value → ℕ
number_of (uint n) = n
number_of (nint n) = 2 ^ 64 + n
number_of _ = 0

abbrev pub numbers_view : List (Item × Item) → List ℕ
numbers_view ps = map (λ p. number_of (view p.0)) ps

-- the bytes of a string
abbrev pub string_of : Value → List ℕ
string_of (bytes bs) = bs
string_of (text bs) = bs
string_of _ = []

abbrev pub strings_view : List (Item × Item) → List (List ℕ)
strings_view ps = map (λ p. string_of (view p.0)) ps

-- each string up to the one before this place is before the next
abbrev pub RisesBelow : List (List ℕ) → ℕ → Type 0
RisesBelow strings place = AllAdjacentBelow (λ s t. slice_cmp nat_cmp s t ≡ Less) strings place

-- an array, a map or a tag
abbrev pub has_parts : Value → Bool
has_parts (array xs) = true
has_parts (pairs ps) = true
has_parts (tag n x) = true
has_parts _ = false

-- Two items are not compared where both have parts; others are the same only if they are equal.
abbrev pub may_be_same : Value → Value → Bool
may_be_same x y = (has_parts x && has_parts y) || same_value x y
