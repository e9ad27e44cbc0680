-- Where a number is found in ranges in order.
use Rattle.std.proofs.Common.{◌≡◌, ℕ, zero, suc, ◌<◌, ◌≤◌, List, [], ◌∷◌, length, Bool, true, false, Option, Some, None, slice_get, slice_index_or, refl, sym, ap, ◌∙◌, arith}
use Rattle.std.specs.Prelude.{nat_le, nat_lt, ◌^◌, ◌&&◌, ◌||◌}
use Rattle.std.specs.List.Sorted.{IsNonDecreasingBy}
use Rattle.std.proofs.Math.Nat.{pow-le-pow_right}
use Rattle.std.proofs.lemmas.Bool.Decides.{nat_tests}
use Rattle.lists.proofs.Lemmas.{test_at_most as is_le, test_greater as not_le}
use Rattle.cddl_meaning.specs.Forms.{fits_in, is_member}
use Rattle.table_nodes.specs.declared.sizes.NumberRange.{NumberRange}
use Rattle.table_nodes.specs.Sizes.{AreInOrder, IsGap, begins_by, sizes_view}

-- a number before all ranges
before_all : (n m : ℕ) (rs : List NumberRange) → n ≤ m → IsGap m rs → AreInOrder rs → is_member n (sizes_view rs) ≡ false
before_all n m [] l g h = refl
before_all n m (r ∷ rs) l g h =
    let far : n < r.least = omega (arith, l, g) in
    let some = h.0 in
    let near : n ≤ r.last = omega (arith, far, some) in
    ap (λ (b : Bool). (b && nat_le n r.last) || is_member n (sizes_view rs)) (not_le r.least n far) ∙ before_all n r.last rs near h.1.0 h.1.1

-- the last numbers rise

last_above : (m : ℕ) (rs : List NumberRange) → IsGap m rs → AreInOrder rs → (k : ℕ) (d : NumberRange) → k < length rs → m ≤ (slice_index_or rs k d).last
last_above m [] g h k d l = absurd (omega (arith, l))
last_above m (r ∷ rs) g h zero d l = (let some = h.0 in omega (arith, g, some))
last_above m (r ∷ rs) g h (suc k) d l =
    let some = h.0 in
    let next : r.last ≤ (slice_index_or rs k d).last = last_above r.last rs h.1.0 h.1.1 k d (omega (arith, l)) in
    omega (arith, g, some, next)

pub last_rise : (rs : List NumberRange) → AreInOrder rs → IsNonDecreasingBy (λ (r : NumberRange). r.last) rs
last_rise [] h i j d l w = absurd (omega (arith, w))
last_rise (r ∷ rs) h zero zero d l w = omega arith
last_rise (r ∷ rs) h zero (suc j) d l w = last_above r.last rs h.1.0 h.1.1 j d (omega (arith, w))
last_rise (r ∷ rs) h (suc i) zero d l w = absurd (omega (arith, l))
last_rise (r ∷ rs) h (suc i) (suc j) d l w = last_rise rs h.1.1 i j d (omega (arith, l)) (omega (arith, w))

-- Only the first range that does not end before a number may have it.
pub found : (n : ℕ) (rs : List NumberRange) (i : ℕ) → AreInOrder rs → ((k : ℕ) (d : NumberRange) → k < i → (slice_index_or rs k d).last < n) → ((k : ℕ) (d : NumberRange) → i ≤ k → k < length rs → n ≤ (slice_index_or rs k d).last) → is_member n (sizes_view rs) ≡ begins_by n (slice_get rs i)
found n [] zero h a b = refl
found n [] (suc i) h a b = refl
found n (r ∷ rs) zero h a b =
    let near : n ≤ r.last = b zero r (omega arith) (omega arith) in
    ap (λ (t : Bool). (nat_le r.least n && t) || is_member n (sizes_view rs)) (is_le n r.last near) ∙ (ap (λ (t : Bool). (nat_le r.least n && true) || t) (before_all n r.last rs near h.1.0 h.1.1) ∙ alone (nat_le r.least n))
  where
    alone : (t : Bool) → ((t && true) || false) ≡ t
    alone true = refl
    alone false = refl
found n (r ∷ rs) (suc i) h a b = ap (λ (t : Bool). (nat_le r.least n && t) || is_member n (sizes_view rs)) (not_le n r.last (a zero r (omega arith))) ∙ (gone (nat_le r.least n) (is_member n (sizes_view rs)) ∙ found n rs i h.1.1 (λ k d l. a (suc k) d (omega (arith, l))) (λ k d l w. b (suc k) d (omega (arith, l)) (omega (arith, w))))
  where
    gone : (t u : Bool) → ((t && false) || u) ≡ u
    gone true u = refl
    gone false u = refl

-- whether so many bytes as the range ends with can hold a number
abbrev pub held_by : ℕ → Option NumberRange → Bool
held_by n None = false
held_by n (Some r) = nat_lt n (256 ^ r.last)

more_hold : (n a b : ℕ) → a ≤ b → nat_lt n (256 ^ a) ≡ true → nat_lt n (256 ^ b) ≡ true
more_hold n a b l h = above n (256 ^ a) (256 ^ b) (pow-le-pow_right {n = 256} (omega arith) l) h
  where
    above : (n x y : ℕ) → x ≤ y → nat_lt n x ≡ true → nat_lt n y ≡ true
    above n x y l h = grind (arith, nat_tests)

-- The last range holds whatever one of them can hold.
pub held : (n : ℕ) (rs : List NumberRange) (i : ℕ) → AreInOrder rs → length rs ≡ suc i → fits_in n (sizes_view rs) ≡ held_by n (slice_get rs i)
held n [] i h e = absurd (omega (arith, e))
held n (r ∷ []) zero h e = ap (λ (t : Bool). (t && nat_lt n (256 ^ r.last)) || false) (is_le r.least r.last h.0) ∙ alone (nat_lt n (256 ^ r.last))
  where
    alone : (t : Bool) → (t || false) ≡ t
    alone true = refl
    alone false = refl
held n (r ∷ []) (suc i) h e = absurd (omega (arith, e))
held n (r ∷ s ∷ ss) zero h e = absurd (omega (arith, e))
held n (r ∷ s ∷ ss) (suc i) h e = later (nat_le r.least r.last && nat_lt n (256 ^ r.last)) (fits_in n (sizes_view (s ∷ ss))) by ∙ held n (s ∷ ss) i h.1.1 (omega (arith, e))
  where
    later : (t u : Bool) → (t ≡ true → u ≡ true) → (t || u) ≡ u
    later true u f = sym (f refl)
    later false u f = refl

    right : (t u : Bool) → (t && u) ≡ true → u ≡ true
    right true u e = e
    right false true e = refl
    right false false e = e

    by : (nat_le r.least r.last && nat_lt n (256 ^ r.last)) ≡ true → fits_in n (sizes_view (s ∷ ss)) ≡ true
    by e =
        let gap = h.1.0 in
        let some = h.1.1.0 in
        let far : nat_lt n (256 ^ s.last) ≡ true = more_hold n r.last s.last (omega (arith, gap, some)) (right (nat_le r.least r.last) (nat_lt n (256 ^ r.last)) e) in
        ap (λ (t : Bool). (t && nat_lt n (256 ^ s.last)) || fits_in n (sizes_view ss)) (is_le s.least s.last some) ∙ ap (λ (t : Bool). t || fits_in n (sizes_view ss)) far
