-- It can be told whether two items are the same.
use Rattle.std.proofs.Common.{◌≡◌, ℕ, List, Bool, true, false, ◌⊎◌, inl, inr, refl, subst}
use Rattle.cbor_data.specs.declared.Width.{Width}
use Rattle.cbor_data.specs.Value.{Value, uint, nint, bytes, text, array, pairs, tag, simple, float, Values, no_values, value, Pairs, no_pairs, pair}
use Rattle.cbor_data.specs.Equivalence.{IsAdded, first, later, IsSame, same_uint, same_nint, same_bytes, same_text, same_array, same_map, same_tag, same_simple, same_float, AreSame, no_members, member, ArePairsSame, no_more, one_more}
use Rattle.cbor_data.specs.Same.{same_value}
use Rattle.cbor_data.proofs.SameLaws.{same_value-true, same_value-same}
use Rattle.cbor_data.proofs.EquivalenceLaws.{itself, onward, pairs_itself, pairs_back, pairs_onward, without}

-- it holds, or it does not
abbrev pub Told : Type 0 → Type 0
Told P = P ⊎ (P → ⊥)

as_well : {P Q : Type 0} → (P → Q) → (Q → P) → Told P → Told Q
as_well f g (inl p) = inl (f p)
as_well f g (inr n) = inr (λ q. n (g q))

both_told : {P Q : Type 0} → Told P → Told Q → Told (P × Q)
both_told (inl p) (inl q) = inl (p, q)
both_told (inl p) (inr n) = inr (λ h. n h.1)
both_told (inr n) q = inr (λ h. n h.0)

by_test : {P : Type 0} (b : Bool) → (b ≡ true → P) → (P → b ≡ true) → Told P
by_test true f g = inl (f refl)
by_test false f g = inr (λ p. let e : false ≡ true = g p in cc)

-- items without parts are the same if they are equal
by_equal : (x y : Value) → (IsSame x y → x ≡ y) → Told (IsSame x y)
by_equal x y f = by_test (same_value x y) (λ e. subst (IsSame x) (same_value-true x y e) (itself x)) (λ s. subst (λ z. same_value x z ≡ true) (f s) (same_value-same x))

-- a pair of these whose key and value are the same as k and v, and the others
record Pick (k v : Value) (others : Pairs) : Type 0 where
  key : Value
  held : Value
  left : Pairs
  keys : IsSame k key
  values : IsSame v held
  added : IsAdded key held left others

split : {k v l w key held : Value} {qs left : Pairs} → IsSame k key → IsSame v held → IsAdded key held left (pair l w qs) → (IsSame k l × IsSame v w) ⊎ Pick k v qs
split s t first = inl (s, t)
split {key = key} {held = held} s t (later {ps = left} a) = inr (record { key = key; held = held; left = left; keys = s; values = t; added = a })

none_left : {k v : Value} {ps : Pairs} → IsAdded k v ps no_pairs → ⊥
none_left a = elim a [ ]

pick : (k v : Value) → ((l : Value) → Told (IsSame k l)) → ((w : Value) → Told (IsSame v w)) → (others : Pairs) → Told (Pick k v others)
pick k v f g no_pairs = inr (λ p. none_left p.added)
pick k v f g (pair l w qs) = elim (both_told (f l) (g w)) [
  | inl b ↦ inl (record { key = l; held = w; left = qs; keys = b.0; values = b.1; added = first })
  | inr n ↦ elim (pick k v f g qs) [
    | inl p ↦ inl (record { key = p.key; held = p.held; left = pair l w p.left; keys = p.keys; values = p.values; added = later p.added })
    | inr m ↦ inr (λ p. elim (split p.keys p.values p.added) [ inl b ↦ n b | inr q ↦ m q ])
  ]
]

-- pairs stay the same when such a pair is taken off each
put_back : {k v l w : Value} {ps qs : Pairs} → IsSame k l → IsSame v w → IsAdded l w qs (pair k v ps) → ArePairsSame qs ps
put_back {ps = ps} s t first = pairs_itself ps
put_back s t (later {ps = qs} a) = one_more s t a (pairs_itself qs)

taken_off : {k v l w : Value} {ps qs others : Pairs} → IsSame k l → IsSame v w → IsAdded l w qs others → ArePairsSame (pair k v ps) others → ArePairsSame ps qs
taken_off s t a d =
    let o = without a (pairs_back d) in
    pairs_back (pairs_onward o.rest (put_back (onward s o.keys) (onward t o.values) o.added))

picked : {k v : Value} {ps others : Pairs} → ArePairsSame (pair k v ps) others → Pick k v others
picked (one_more {l = l} {w = w} {qs = qs} s t a r) = record { key = l; held = w; left = qs; keys = s; values = t; added = a }

array_inside : {xs ys : Values} → IsSame (array xs) (array ys) → AreSame xs ys
array_inside (same_array d) = d

map_inside : {ps qs : Pairs} → IsSame (pairs ps) (pairs qs) → ArePairsSame ps qs
map_inside (same_map d) = d

tag_inside : {m n : ℕ} {x y : Value} → IsSame (tag m x) (tag n y) → (uint m ≡ uint n) × IsSame x y
tag_inside (same_tag d) = (refl, d)

tag_outside : {m n : ℕ} {x y : Value} → uint m ≡ uint n → IsSame x y → IsSame (tag m x) (tag n y)
tag_outside {m = m} {n = n} {x = x} {y = y} e d = let is : m ≡ n = cc in subst (λ o. IsSame (tag m x) (tag o y)) is (same_tag d)

members_inside : {x y : Value} {xs ys : Values} → AreSame (value x xs) (value y ys) → IsSame x y × AreSame xs ys
members_inside (member d e) = (d, e)

uint_equal : {n : ℕ} {y : Value} → IsSame (uint n) y → uint n ≡ y
uint_equal same_uint = refl

nint_equal : {n : ℕ} {y : Value} → IsSame (nint n) y → nint n ≡ y
nint_equal same_nint = refl

bytes_equal : {b : List ℕ} {y : Value} → IsSame (bytes b) y → bytes b ≡ y
bytes_equal same_bytes = refl

text_equal : {b : List ℕ} {y : Value} → IsSame (text b) y → text b ≡ y
text_equal same_text = refl

simple_equal : {n : ℕ} {y : Value} → IsSame (simple n) y → simple n ≡ y
simple_equal same_simple = refl

float_equal : {w : Width} {n : ℕ} {y : Value} → IsSame (float w n) y → float w n ≡ y
float_equal same_float = refl

mutual
  pub same_told : (x y : Value) → Told (IsSame x y)
  same_told (uint n) y = by_equal (uint n) y (λ s. uint_equal s)
  same_told (nint n) y = by_equal (nint n) y (λ s. nint_equal s)
  same_told (bytes b) y = by_equal (bytes b) y (λ s. bytes_equal s)
  same_told (text b) y = by_equal (text b) y (λ s. text_equal s)
  same_told (simple n) y = by_equal (simple n) y (λ s. simple_equal s)
  same_told (float w n) y = by_equal (float w n) y (λ s. float_equal s)
  same_told (array xs) (array ys) = as_well same_array array_inside (members_told xs ys)
  same_told (array xs) _ = inr (λ s. elim s [ ])
  same_told (pairs ps) (pairs qs) = as_well same_map map_inside (pairs_told ps qs)
  same_told (pairs ps) _ = inr (λ s. elim s [ ])
  same_told (tag m x) (tag n y) = as_well (λ b. tag_outside b.0 b.1) tag_inside (both_told (by_test (same_value (uint m) (uint n)) (same_value-true (uint m) (uint n)) (λ e. subst (λ z. same_value (uint m) z ≡ true) e (same_value-same (uint m)))) (same_told x y))
  same_told (tag m x) _ = inr (λ s. elim s [ ])

  members_told : (xs ys : Values) → Told (AreSame xs ys)
  members_told no_values no_values = inl no_members
  members_told no_values (value y ys) = inr (λ s. elim s [ ])
  members_told (value x xs) no_values = inr (λ s. elim s [ ])
  members_told (value x xs) (value y ys) = as_well (λ b. member b.0 b.1) members_inside (both_told (same_told x y) (members_told xs ys))

  pairs_told : (ps qs : Pairs) → Told (ArePairsSame ps qs)
  pairs_told no_pairs no_pairs = inl no_more
  pairs_told no_pairs (pair l w qs) = inr (λ s. elim s [ ])
  pairs_told (pair k v ps) others = elim (pick k v (λ l. same_told k l) (λ w. same_told v w) others) [
    | inl p ↦ elim (pairs_told ps p.left) [
      | inl r ↦ inl (one_more p.keys p.values p.added r)
      | inr n ↦ inr (λ s. n (taken_off p.keys p.values p.added s))
    ]
    | inr n ↦ inr (λ s. n (picked s))
  ]
