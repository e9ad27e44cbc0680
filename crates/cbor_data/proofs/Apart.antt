-- Validity, part by part: of two keys of one map neither is the same as the other.
use Rattle.std.proofs.Common.{ℕ, ◌+◌, List, [], ◌∷◌, inl, inr, refl, suc}
use Rattle.cbor_data.specs.Value.{Value, uint, nint, bytes, text, array, pairs, tag, simple, float, Values, no_values, value, Pairs, no_pairs, pair, place_count}
use Rattle.cbor_data.specs.Equivalence.{IsAdded, first, later, IsSame, same_uint, same_nint, same_bytes, same_text, same_array, same_map, same_tag, same_simple, same_float, AreSame, no_members, member, ArePairsSame, no_more, one_more}
use Rattle.cbor_data.specs.Validity.{IsOneOf, IsRepeatedKeyAmong, IsRepeatedKeyAfter, IsValid}
use Rattle.cbor_data.proofs.EquivalenceLaws.{back, onward}

-- no key of these is the same as k
abbrev pub IsApartFrom : Value → Pairs → Type 0
IsApartFrom k no_pairs = Unit {0}
IsApartFrom k (pair l w ps) = (IsSame l k → ⊥) × IsApartFrom k ps

abbrev mutual
  pub HasKeysApart : Value → Type 0
  HasKeysApart (array xs) = HaveKeysApart xs
  HasKeysApart (pairs ps) = AreKeysApart ps
  HasKeysApart (tag n x) = HasKeysApart x
  HasKeysApart _ = Unit {0}

  pub HaveKeysApart : Values → Type 0
  HaveKeysApart no_values = Unit {0}
  HaveKeysApart (value x xs) = HasKeysApart x × HaveKeysApart xs

  pub AreKeysApart : Pairs → Type 0
  AreKeysApart no_pairs = Unit {0}
  AreKeysApart (pair k v ps) = IsApartFrom k ps × HasKeysApart k × HasKeysApart v × AreKeysApart ps

apart_from : (earlier : List Value) (k : Value) (ps : Pairs) → ((l : Value) → IsSame l k → IsOneOf earlier l) → ((i : ℕ) → IsRepeatedKeyAfter earlier ps i → ⊥) → IsApartFrom k ps
apart_from earlier k no_pairs h n = tt
apart_from earlier k (pair l w ps) h n =
    (λ s. n 0 (inl (refl, h l s)), apart_from (l ∷ earlier) k ps (λ m s. inr (h m s)) (λ i r. n (place_count l + (place_count w + i)) (inr (inr (inr (i, refl, r))))))

mutual
  pub valid_apart : (x : Value) → IsValid x → HasKeysApart x
  valid_apart (uint n) h = tt
  valid_apart (nint n) h = tt
  valid_apart (bytes b) h = tt
  valid_apart (text b) h = tt
  valid_apart (array xs) h = all_apart xs (λ i r. h (suc i) (i, refl, r))
  valid_apart (pairs ps) h = keys_apart [] ps (λ i r. h (suc i) (i, refl, r))
  valid_apart (tag n x) h = valid_apart x (λ i r. h (suc i) (i, refl, r))
  valid_apart (simple n) h = tt
  valid_apart (float w n) h = tt

  all_apart : (xs : Values) → ((i : ℕ) → IsRepeatedKeyAmong xs i → ⊥) → HaveKeysApart xs
  all_apart no_values h = tt
  all_apart (value x xs) h = (valid_apart x (λ i r. h i (inl r)), all_apart xs (λ i r. h (place_count x + i) (inr (i, refl, r))))

  keys_apart : (earlier : List Value) (ps : Pairs) → ((i : ℕ) → IsRepeatedKeyAfter earlier ps i → ⊥) → AreKeysApart ps
  keys_apart earlier no_pairs h = tt
  keys_apart earlier (pair k v ps) h =
      let rest : (i : ℕ) → IsRepeatedKeyAfter (k ∷ earlier) ps i → ⊥ = λ i r. h (place_count k + (place_count v + i)) (inr (inr (inr (i, refl, r)))) in
      (apart_from (k ∷ earlier) k ps (λ l s. inl s) rest, valid_apart k (λ i r. h i (inr (inl r))), valid_apart v (λ i r. h (place_count k + i) (inr (inr (inl (i, refl, r))))), keys_apart (k ∷ earlier) ps rest)

-- a pair of a map whose keys are apart, and the others
pub record ApartWithout (k v : Value) (ps : Pairs) : Type 0 where
  pub from : IsApartFrom k ps
  pub key : HasKeysApart k
  pub held : HasKeysApart v
  pub rest : AreKeysApart ps

pub from_added : {k v m : Value} {ps qs : Pairs} → IsAdded k v ps qs → IsApartFrom m qs → (IsSame k m → ⊥) × IsApartFrom m ps
from_added first h = h
from_added (later a) h = let t = from_added a h.1 in (t.0, (h.0, t.1))

pub apart_without : {k v : Value} {ps qs : Pairs} → IsAdded k v ps qs → AreKeysApart qs → ApartWithout k v ps
apart_without first h = record { from = h.0; key = h.1; held = h.2; rest = h.3 }
apart_without (later a) h =
    let t = apart_without a h.3 in
    let f = from_added a h.0 in
    record { from = (λ s. f.0 (back s), t.from); key = t.key; held = t.held; rest = (f.1, h.1, h.2, t.rest) }

-- What is apart stays so in another order.

from_more : {k v m : Value} {ps qs : Pairs} → IsAdded k v ps qs → (IsSame k m → ⊥) → IsApartFrom m ps → IsApartFrom m qs
from_more first n h = (n, h)
from_more (later a) n h = (h.0, from_more a n h.1)

apart_more : {k v : Value} {ps qs : Pairs} → IsAdded k v ps qs → IsApartFrom k ps → HasKeysApart k → HasKeysApart v → AreKeysApart ps → AreKeysApart qs
apart_more first f h g t = (f, h, g, t)
apart_more (later a) f h g t = (from_more a (λ s. f.0 (back s)) t.0, t.1, t.2, apart_more a f.1 h g t.3)

from_same : {k l : Value} {ps qs : Pairs} → IsSame k l → ArePairsSame ps qs → IsApartFrom k ps → IsApartFrom l qs
from_same s no_more h = tt
from_same s (one_more d e a r) h = from_more a (λ t. h.0 (onward d (onward t (back s)))) (from_same s r h.1)

mutual
  pub same_apart : {x y : Value} → IsSame x y → HasKeysApart x → HasKeysApart y
  same_apart same_uint h = h
  same_apart same_nint h = h
  same_apart same_bytes h = h
  same_apart same_text h = h
  same_apart (same_array d) h = all_same_apart d h
  same_apart (same_map d) h = pairs_same_apart d h
  same_apart (same_tag d) h = same_apart d h
  same_apart same_simple h = h
  same_apart same_float h = h

  all_same_apart : {xs ys : Values} → AreSame xs ys → HaveKeysApart xs → HaveKeysApart ys
  all_same_apart no_members h = h
  all_same_apart (member d e) h = (same_apart d h.0, all_same_apart e h.1)

  pairs_same_apart : {ps qs : Pairs} → ArePairsSame ps qs → AreKeysApart ps → AreKeysApart qs
  pairs_same_apart no_more h = h
  pairs_same_apart (one_more d e a r) h = apart_more a (from_same d r h.0) (same_apart d h.1) (same_apart e h.2) (pairs_same_apart r h.3)

-- no key of these is the same as one before
abbrev AreAllApartFrom : List Value → Pairs → Type 0
AreAllApartFrom [] ps = Unit {0}
AreAllApartFrom (l ∷ ls) ps = IsApartFrom l ps × AreAllApartFrom ls ps

not_one : (ls : List Value) (k v : Value) (ps : Pairs) → AreAllApartFrom ls (pair k v ps) → IsOneOf ls k → ⊥
not_one [] k v ps h o = o
not_one (l ∷ ls) k v ps h (inl s) = h.0.0 s
not_one (l ∷ ls) k v ps h (inr o) = not_one ls k v ps h.1 o

rest_from : (ls : List Value) (k v : Value) (ps : Pairs) → AreAllApartFrom ls (pair k v ps) → AreAllApartFrom ls ps
rest_from [] k v ps h = tt
rest_from (l ∷ ls) k v ps h = (h.0.1, rest_from ls k v ps h.1)

mutual
  pub apart_valid : (x : Value) → HasKeysApart x → IsValid x
  apart_valid (uint n) h i r = r
  apart_valid (nint n) h i r = r
  apart_valid (bytes b) h i r = r
  apart_valid (text b) h i r = r
  apart_valid (array xs) h i r = all_apart_valid xs h r.0 r.2
  apart_valid (pairs ps) h i r = pairs_apart_valid [] ps tt h r.0 r.2
  apart_valid (tag n x) h i r = apart_valid x h r.0 r.2
  apart_valid (simple n) h i r = r
  apart_valid (float w n) h i r = r

  all_apart_valid : (xs : Values) → HaveKeysApart xs → (i : ℕ) → IsRepeatedKeyAmong xs i → ⊥
  all_apart_valid no_values h i r = r
  all_apart_valid (value x xs) h i (inl r) = apart_valid x h.0 i r
  all_apart_valid (value x xs) h i (inr r) = all_apart_valid xs h.1 r.0 r.2

  pairs_apart_valid : (earlier : List Value) (ps : Pairs) → AreAllApartFrom earlier ps → AreKeysApart ps → (i : ℕ) → IsRepeatedKeyAfter earlier ps i → ⊥
  pairs_apart_valid earlier no_pairs f h i r = r
  pairs_apart_valid earlier (pair k v ps) f h i (inl r) = not_one earlier k v ps f r.1
  pairs_apart_valid earlier (pair k v ps) f h i (inr (inl r)) = apart_valid k h.1 i r
  pairs_apart_valid earlier (pair k v ps) f h i (inr (inr (inl r))) = apart_valid v h.2 r.0 r.2
  pairs_apart_valid earlier (pair k v ps) f h i (inr (inr (inr r))) = pairs_apart_valid (k ∷ earlier) ps (h.0, rest_from earlier k v ps f) h.3 r.0 r.2

pub same_valid : (x y : Value) → IsSame x y → IsValid x → IsValid y
same_valid x y d h = apart_valid y (same_apart d (valid_apart x h))
