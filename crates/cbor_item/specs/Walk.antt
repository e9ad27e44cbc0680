-- What a walk over an item in search of its first repeated key answers.
use Rattle.std.specs.Prelude.{◌≡◌, ℕ, ◌+◌, ◌<◌, ◌≤◌, ◌^◌, List, length, Bool, Result, Ok, Err}
use Rattle.std.specs.BTreeSet.{BTreeSet, contains_by}
use Rattle.std.specs.Cmp.Lexicographic.{slice_cmp}
use Rattle.std.specs.Ordering.{nat_cmp}
use Rattle.std.specs.declared.vec.Vec.{Vec}
use Rattle.std.specs.declared.alloc.Global.{Global}
use Rattle.cbor_data.specs.Preferred.{preferred, values_preferred, pairs_preferred, AreCountsShort, AreValueCountsShort, ArePairCountsShort}
use Rattle.cbor_data.specs.Value.{Value, Values, Pairs, IsInRange, AreInRange, ArePairsInRange, AreBitsFitting, AreValuesFitting, ArePairsFitting, AreSimplesAssignable, AreValuesAssignable, ArePairsAssignable, place_count, values_place_count, pairs_place_count}
use Rattle.cbor_data.specs.Validity.{IsRepeatedKey, IsRepeatedKeyAmong, IsRepeatedKeyAfter}
use Rattle.cbor_item.specs.declared.sound.Unsound.{Unsound}
use Rattle.cbor_item.specs.declared.sound.Unsound.TheVariants.{Duplicate, Memory}

-- what is known of an item before its keys: its preferred bytes spell it, and are fewer than 2^128
pub record IsPlain (x : Value) : Type 0 where
  pub in_range : IsInRange x
  pub assignable : AreSimplesAssignable x
  pub fitting : AreBitsFitting x
  pub counts : AreCountsShort x
  pub short : length (preferred x) < 2 ^ 128

pub record ArePlain (xs : Values) : Type 0 where
  pub in_range : AreInRange xs
  pub assignable : AreValuesAssignable xs
  pub fitting : AreValuesFitting xs
  pub counts : AreValueCountsShort xs
  pub short : length (values_preferred xs) < 2 ^ 128

pub record ArePairsPlain (ps : Pairs) : Type 0 where
  pub in_range : ArePairsInRange ps
  pub assignable : ArePairsAssignable ps
  pub fitting : ArePairsFitting ps
  pub counts : ArePairCountsShort ps
  pub short : length (pairs_preferred ps) < 2 ^ 128

-- the least of the places
pub record IsLeast (P : ℕ → Type 0) (i : ℕ) : Type 0 where
  pub holds : P i
  pub least : (j : ℕ) → P j → i ≤ j

-- Of so many places from `place` on: there is a repeated key at none of them, and the answer is the place after them; or
-- the answer is the least of those where one is; or there was no memory.
abbrev pub Finds : (ℕ → Type 0) → ℕ → ℕ → Result ℕ Unsound → Type 0
Finds repeated count place (Ok next) = ((i : ℕ) → repeated i → ⊥) × (next ≡ place + count)
Finds repeated count place (Err (Duplicate at)) = (i : ℕ) × (at ≡ place + i) × IsLeast repeated i
Finds repeated count place (Err Memory) = Unit {0}
Finds repeated count place (Err _) = ⊥

abbrev pub Walks : Value → ℕ → Result ℕ Unsound → Type 0
Walks x = Finds (IsRepeatedKey x) (place_count x)

abbrev pub WalksAmong : Values → ℕ → Result ℕ Unsound → Type 0
WalksAmong xs = Finds (IsRepeatedKeyAmong xs) (values_place_count xs)

-- the same, in a map, after these keys
abbrev pub WalksAfter : List Value → Pairs → ℕ → Result ℕ Unsound → Type 0
WalksAfter earlier ps = Finds (IsRepeatedKeyAfter earlier ps) (pairs_place_count ps)

-- whether the set has the bytes
abbrev pub has : BTreeSet (Vec ℕ Global) → List ℕ → Bool
has keys bytes = contains_by (λ (k : Vec ℕ Global). slice_cmp nat_cmp bytes k.items) keys
