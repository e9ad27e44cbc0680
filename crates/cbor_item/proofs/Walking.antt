-- Looking for the first repeated key in parts.
use Rattle.std.proofs.Common.{◌≡◌, ℕ, suc, ◌+◌, ◌<◌, ◌≤◌, List, [], ◌∷◌, ◌⊎◌, inl, inr, refl, ap, ◌∙◌, arith, Result, Ok, Err}
use Rattle.cbor_data.specs.Validity.{IsOneOf, IsValid, IsRepeatedKey, IsRepeatedKeyAmong, IsRepeatedKeyAfter}
use Rattle.cbor_data.specs.Value.{Value, uint, nint, bytes, text, array, pairs, tag, simple, float, Values, no_values, value, Pairs, no_pairs, pair, place_count, values_place_count, pairs_place_count}
use Rattle.cbor_data.proofs.Lemmas.{back, same_valid}
use Rattle.cbor_item.proofs.Plain.{place_some}
use Rattle.cbor_item.specs.Walk.{Finds, Walks, WalksAmong, WalksAfter}
use Rattle.cbor_item.specs.declared.sound.Unsound.{Unsound}
use Rattle.cbor_item.specs.declared.sound.Unsound.TheVariants.{TooDeep, BadSimple, BadBits, TooBig, Duplicate, Memory}

-- a place that is one of these, or one of those after so many
abbrev OrBehind : (ℕ → Type 0) → ℕ → (ℕ → Type 0) → ℕ → Type 0
OrBehind P n Q i = P i ⊎ ((j : ℕ) × (i ≡ n + j) × Q j)

-- a part that has none, and then the rest
on : (P Q : ℕ → Type 0) (n m place next : ℕ) (r : Result ℕ Unsound) → Finds P n place (Ok next) → Finds Q m next r → Finds (OrBehind P n Q) (n + m) place r
on P Q n m place next (Ok last) h k = (λ i o. elim o [ inl p ↦ h.0 i p | inr q ↦ k.0 q.0 q.2 ], omega (arith, h.1, k.1))
on P Q n m place next (Err TooDeep) h k = k
on P Q n m place next (Err BadSimple) h k = k
on P Q n m place next (Err BadBits) h k = k
on P Q n m place next (Err TooBig) h k = k
on P Q n m place next (Err (Duplicate at)) h k = (
  n + k.0,
  omega (arith, h.1, k.1),
  record {
    holds = inr (k.0, refl, k.2.holds);
    least = λ i o. elim o [ inl p ↦ absurd (h.0 i p) | inr q ↦ let le : k.0 ≤ q.0 = k.2.least q.0 q.2 in let is : i ≡ n + q.0 = q.1 in omega arith ];
  },
)
on P Q n m place next (Err Memory) h k = tt

-- a part that ends the walk
first : (P Q : ℕ → Type 0) (n m place : ℕ) (e : Unsound) → ((i : ℕ) → P i → i < n) → Finds P n place (Err e) → Finds (OrBehind P n Q) (n + m) place (Err e)
first P Q n m place TooDeep within h = h
first P Q n m place BadSimple within h = h
first P Q n m place BadBits within h = h
first P Q n m place TooBig within h = h
first P Q n m place (Duplicate at) within h = (
  h.0,
  h.1,
  record {
    holds = inl h.2.holds;
    least = λ i o. elim o [ inl p ↦ h.2.least i p | inr q ↦ let lt : h.0 < n = within h.0 h.2.holds in let is : i ≡ n + q.0 = q.1 in omega arith ];
  },
)
first P Q n m place Memory within h = tt

same : (P Q : ℕ → Type 0) (n place : ℕ) (r : Result ℕ Unsound) → ((i : ℕ) → P i → Q i) → ((i : ℕ) → Q i → P i) → Finds P n place r → Finds Q n place r
same P Q n place (Ok next) f g h = (λ i q. h.0 i (g i q), h.1)
same P Q n place (Err TooDeep) f g h = h
same P Q n place (Err BadSimple) f g h = h
same P Q n place (Err BadBits) f g h = h
same P Q n place (Err TooBig) f g h = h
same P Q n place (Err (Duplicate at)) f g h = (h.0, h.1, record { holds = f h.0 h.2.holds; least = λ i q. h.2.least i (g i q) })
same P Q n place (Err Memory) f g h = tt

-- what is inside a container is one place further
inside : (Q : ℕ → Type 0) (n place : ℕ) (r : Result ℕ Unsound) → Finds Q n (place + 1) r → Finds (λ i. (j : ℕ) × (i ≡ suc j) × Q j) (suc n) place r
inside Q n place (Ok next) h = (λ i q. h.0 q.0 q.2, omega (arith, h.1))
inside Q n place (Err TooDeep) h = h
inside Q n place (Err BadSimple) h = h
inside Q n place (Err BadBits) h = h
inside Q n place (Err TooBig) h = h
inside Q n place (Err (Duplicate at)) h =
    (suc h.0, omega (arith, h.1), record { holds = (h.0, refl, h.2.holds); least = λ i q. let le : h.0 ≤ q.0 = h.2.least q.0 q.2 in let is : i ≡ suc q.0 = q.1 in omega arith })
inside Q n place (Err Memory) h = tt

-- each repeated key is at a place of the item
mutual
  within : (x : Value) (i : ℕ) → IsRepeatedKey x i → i < place_count x
  within (array xs) i h = let lt : h.0 < values_place_count xs = within_members xs h.0 h.2 in let is : i ≡ suc h.0 = h.1 in omega arith
  within (pairs ps) i h = let lt : h.0 < pairs_place_count ps = within_pairs [] ps h.0 h.2 in let is : i ≡ suc h.0 = h.1 in omega arith
  within (tag n x) i h = let lt : h.0 < place_count x = within x h.0 h.2 in let is : i ≡ suc h.0 = h.1 in omega arith
  within (uint n) i h = absurd h
  within (nint n) i h = absurd h
  within (bytes bs) i h = absurd h
  within (text bs) i h = absurd h
  within (simple n) i h = absurd h
  within (float w n) i h = absurd h

  within_members : (xs : Values) (i : ℕ) → IsRepeatedKeyAmong xs i → i < values_place_count xs
  within_members no_values i h = absurd h
  within_members (value x xs) i (inl h) = let lt : i < place_count x = within x i h in omega arith
  within_members (value x xs) i (inr h) = let lt : h.0 < values_place_count xs = within_members xs h.0 h.2 in let is : i ≡ place_count x + h.0 = h.1 in omega arith

  within_pairs : (earlier : List Value) (ps : Pairs) (i : ℕ) → IsRepeatedKeyAfter earlier ps i → i < pairs_place_count ps
  within_pairs earlier no_pairs i h = absurd h
  within_pairs earlier (pair k v ps) i (inl h) = let some : 0 < place_count k = place_some k in let is : i ≡ 0 = h.0 in omega arith
  within_pairs earlier (pair k v ps) i (inr (inl h)) = let lt : i < place_count k = within k i h in omega arith
  within_pairs earlier (pair k v ps) i (inr (inr (inl h))) = let lt : h.0 < place_count v = within v h.0 h.2 in let is : i ≡ place_count k + h.0 = h.1 in omega arith
  within_pairs earlier (pair k v ps) i (inr (inr (inr h))) =
      let lt : h.0 < pairs_place_count ps = within_pairs (k ∷ earlier) ps h.0 h.2 in let is : i ≡ place_count k + (place_count v + h.0) = h.1 in omega arith

pub among_more : (x : Value) (xs : Values) (place next : ℕ) (r : Result ℕ Unsound) → Walks x place (Ok next) → WalksAmong xs next r → WalksAmong (value x xs) place r
among_more x xs place next r h k = on (IsRepeatedKey x) (IsRepeatedKeyAmong xs) (place_count x) (values_place_count xs) place next r h k

pub among_stop : (x : Value) (xs : Values) (place : ℕ) (e : Unsound) → Walks x place (Err e) → WalksAmong (value x xs) place (Err e)
among_stop x xs place e h = first (IsRepeatedKey x) (IsRepeatedKeyAmong xs) (place_count x) (values_place_count xs) place e (within x) h

pub among_none : (place : ℕ) → WalksAmong no_values place (Ok place)
among_none place = (λ i h. h, omega arith)

pub after_none : (earlier : List Value) (place : ℕ) → WalksAfter earlier no_pairs place (Ok place)
after_none earlier place = (λ i h. h, omega arith)

-- no map in the values has two keys that are the same
abbrev pub AreValid : List Value → Type 0
AreValid [] = Unit {0}
AreValid (x ∷ xs) = IsValid x × AreValid xs

-- a place in the value or after it, from the value on
abbrev FromValue : List Value → Value → Value → Pairs → ℕ → Type 0
FromValue earlier k v ps = OrBehind (IsRepeatedKey v) (place_count v) (IsRepeatedKeyAfter (k ∷ earlier) ps)

pair_split : (earlier : List Value) (k v : Value) (ps : Pairs) (place : ℕ) (r : Result ℕ Unsound) → (IsOneOf earlier k → ⊥) →
    Finds (OrBehind (IsRepeatedKey k) (place_count k) (FromValue earlier k v ps)) (place_count k + (place_count v + pairs_place_count ps)) place r → WalksAfter earlier (pair k v ps) place r
pair_split earlier k v ps place r new h =
    same (OrBehind (IsRepeatedKey k) (place_count k) (FromValue earlier k v ps)) (IsRepeatedKeyAfter earlier (pair k v ps)) (place_count k + (place_count v + pairs_place_count ps)) place r
    (λ i o. elim o [
      | inl p ↦ inr (inl p)
      | inr q ↦ elim q.2 [
        | inl s ↦ inr (inr (inl (q.0, q.1, s)))
        | inr s ↦ inr (inr (inr (s.0, q.1 ∙ ap (λ j. place_count k + j) s.1, s.2)))
      ]
    ])
    (λ i o. elim o [
      | inl p ↦ absurd (new p.1)
      | inr q ↦ elim q [
        | inl s ↦ inl s
        | inr s ↦ elim s [
          | inl t ↦ inr (t.0, t.1, inl t.2)
          | inr t ↦ inr (place_count v + t.0, t.1, inr (t.0, refl, t.2))
        ]
      ]
    ])
    h

-- the walk goes on after a pair
pub after_more : (earlier : List Value) (k v : Value) (ps : Pairs) (place mid next : ℕ) (r : Result ℕ Unsound) → (IsOneOf earlier k → ⊥) → Walks k place (Ok mid) →
    Walks v mid (Ok next) → WalksAfter (k ∷ earlier) ps next r → WalksAfter earlier (pair k v ps) place r
after_more earlier k v ps place mid next r new h i j =
    pair_split earlier k v ps place r new
    (on (IsRepeatedKey k) (FromValue earlier k v ps) (place_count k) (place_count v + pairs_place_count ps) place mid r h
    (on (IsRepeatedKey v) (IsRepeatedKeyAfter (k ∷ earlier) ps) (place_count v) (pairs_place_count ps) mid next r i j))

-- a key in which a repeated key is found is none of valid ones
repeat_new : (earlier : List Value) (k : Value) (i : ℕ) → AreValid earlier → IsRepeatedKey k i → IsOneOf earlier k → ⊥
repeat_new [] k i valid h o = o
repeat_new (l ∷ ls) k i valid h (inl d) = same_valid l k (back d) valid.0 i h
repeat_new (l ∷ ls) k i valid h (inr o) = repeat_new ls k i valid.1 h o

-- or ends in its key, where the earlier keys are valid, or in its value
pub after_key : (earlier : List Value) (k v : Value) (ps : Pairs) (place : ℕ) (e : Unsound) → AreValid earlier → Walks k place (Err e) → WalksAfter earlier (pair k v ps) place (Err e)
after_key earlier k v ps place TooDeep valid h = h
after_key earlier k v ps place BadSimple valid h = h
after_key earlier k v ps place BadBits valid h = h
after_key earlier k v ps place TooBig valid h = h
after_key earlier k v ps place (Duplicate at) valid h =
    pair_split earlier k v ps place (Err (Duplicate at)) (repeat_new earlier k h.0 valid h.2.holds)
    (first (IsRepeatedKey k) (FromValue earlier k v ps) (place_count k) (place_count v + pairs_place_count ps) place (Duplicate at) (within k) h)
after_key earlier k v ps place Memory valid h = tt

pub after_value : (earlier : List Value) (k v : Value) (ps : Pairs) (place mid : ℕ) (e : Unsound) → (IsOneOf earlier k → ⊥) → Walks k place (Ok mid) → Walks v mid (Err e) →
    WalksAfter earlier (pair k v ps) place (Err e)
after_value earlier k v ps place mid e new h i =
    pair_split earlier k v ps place (Err e) new
    (on (IsRepeatedKey k) (FromValue earlier k v ps) (place_count k) (place_count v + pairs_place_count ps) place mid (Err e) h
    (first (IsRepeatedKey v) (IsRepeatedKeyAfter (k ∷ earlier) ps) (place_count v) (pairs_place_count ps) mid e (within v) i))

-- or at the key itself
pub after_repeat : (earlier : List Value) (k v : Value) (ps : Pairs) (place : ℕ) → IsOneOf earlier k → WalksAfter earlier (pair k v ps) place (Err (Duplicate place))
after_repeat earlier k v ps place h = (0, omega arith, record { holds = inl (refl, h); least = λ i q. omega arith })

pub walks_array : (xs : Values) (place : ℕ) (r : Result ℕ Unsound) → WalksAmong xs (place + 1) r → Walks (array xs) place r
walks_array xs place r h = inside (IsRepeatedKeyAmong xs) (values_place_count xs) place r h

pub walks_pairs : (ps : Pairs) (place : ℕ) (r : Result ℕ Unsound) → WalksAfter [] ps (place + 1) r → Walks (pairs ps) place r
walks_pairs ps place r h = inside (IsRepeatedKeyAfter [] ps) (pairs_place_count ps) place r h

pub walks_tag : (n : ℕ) (x : Value) (place : ℕ) (r : Result ℕ Unsound) → Walks x (place + 1) r → Walks (tag n x) place r
walks_tag n x place r h = inside (IsRepeatedKey x) (place_count x) place r h
