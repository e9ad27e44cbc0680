-- The members of a list of ranges, and what fits in as many bytes as one of them.
use Rattle.std.specs.Prelude.{◌↔◌, ◌^◌, nat_le, nat_lt, ◌||◌}
use Rattle.std.proofs.Common.{◌≡◌, ℕ, zero, suc, ◌<◌, ◌≤◌, List, [], ◌∷◌, Bool, true, false, ◌&&◌, ◌⊎◌, inl, inr, refl, sym, subst, arith}
use Rattle.std.specs.List.{Contains}
use Rattle.std.proofs.Math.Nat.{pow-le-pow_right}
use Rattle.std.proofs.lemmas.Bool.Decides.{nat_tests}
use Rattle.lists.proofs.Lemmas.{either_true as one_of, or_right as right_so}
use Rattle.cddl_language.proofs.Basics.{none_in}
use Rattle.cddl_meaning.specs.Forms.{fits_in, is_member}

here : (r : ℕ × ℕ) (rs : List (ℕ × ℕ)) → Contains (r ∷ rs) r
here r rs = (0, omega arith, refl)

further : (r q : ℕ × ℕ) (rs : List (ℕ × ℕ)) → Contains rs q → Contains (r ∷ rs) q
further r q rs h = (suc h.0, omega (arith, h.1), h.2)

first_or_further : (r q : ℕ × ℕ) (rs : List (ℕ × ℕ)) → Contains (r ∷ rs) q → (r ≡ q) ⊎ Contains rs q
first_or_further r q rs (zero, l, e) = inl e
first_or_further r q rs (suc k, l, e) = inr (k, omega (arith, l), e)

left_so : (a b : Bool) → a ≡ true → (a || b) ≡ true
left_so true b e = refl
left_so false b e = absurd (cc)

within : (a b n : ℕ) → (nat_le a n && nat_le n b) ≡ true → (a ≤ n) × (n ≤ b)
within a b n e = grind (arith, nat_tests)

from_within : (a b n : ℕ) → a ≤ n → n ≤ b → (nat_le a n && nat_le n b) ≡ true
from_within a b n l m = grind (arith, nat_tests)

-- the number is a member

abbrev pub IsOneOf : List (ℕ × ℕ) → ℕ → Type 0
IsOneOf rs n = (r : ℕ × ℕ) × Contains rs r × (r.0 ≤ n) × (n ≤ r.1)

member : (n : ℕ) (rs : List (ℕ × ℕ)) → is_member n rs ≡ true → IsOneOf rs n
member n [] e = absurd (cc)
member n (r ∷ rs) e = elim (one_of (nat_le r.0 n && nat_le n r.1) (is_member n rs) e) [
  | inl f ↦ (let l = within r.0 r.1 n f in (r, here r rs, l.0, l.1))
  | inr f ↦ (let h = member n rs f in (h.0, further r h.0 rs h.1, h.2, h.3))
]

from_member : (n : ℕ) (rs : List (ℕ × ℕ)) → IsOneOf rs n → is_member n rs ≡ true
from_member n [] h = absurd (none_in h.1)
from_member n (r ∷ rs) h = elim (first_or_further r h.0 rs h.1) [
  | inl q ↦ left_so (nat_le r.0 n && nat_le n r.1) (is_member n rs) (from_within r.0 r.1 n (subst (λ (u : ℕ × ℕ). u.0 ≤ n) (sym q) h.2) (subst (λ (u : ℕ × ℕ). n ≤ u.1) (sym q) h.3))
  | inr f ↦ right_so (nat_le r.0 n && nat_le n r.1) (is_member n rs) (from_member n rs (h.0, f, h.2, h.3))
]

pub members : (n : ℕ) (rs : List (ℕ × ℕ)) → (is_member n rs ≡ true) ↔ IsOneOf rs n
members n rs = (member n rs, from_member n rs)

-- a member fits the number

abbrev FitsOneOf : List (ℕ × ℕ) → ℕ → Type 0
FitsOneOf rs n = (r : ℕ × ℕ) × (m : ℕ) × Contains rs r × (r.0 ≤ m) × (m ≤ r.1) × (n < 256 ^ m)

fits_last : (a b n : ℕ) → (nat_le a b && nat_lt n (256 ^ b)) ≡ true → (a ≤ b) × (n < 256 ^ b)
fits_last a b n e = tests (256 ^ b) e
  where
    tests : (most : ℕ) → (nat_le a b && nat_lt n most) ≡ true → (a ≤ b) × (n < most)
    tests most f = grind (arith, nat_tests)

from_last : (a b n : ℕ) → a ≤ b → n < 256 ^ b → (nat_le a b && nat_lt n (256 ^ b)) ≡ true
from_last a b n l f = tests (256 ^ b) f
  where
    tests : (most : ℕ) → n < most → (nat_le a b && nat_lt n most) ≡ true
    tests most g = grind (arith, nat_tests)

fits_more : (m b n : ℕ) → m ≤ b → n < 256 ^ m → n < 256 ^ b
fits_more m b n l f = step (256 ^ m) (256 ^ b) f (pow-le-pow_right some l)
  where
    some : 0 < 256
    some = omega arith

    step : (x y : ℕ) → n < x → x ≤ y → n < y
    step x y g h = omega (arith, g, h)

fits : (n : ℕ) (rs : List (ℕ × ℕ)) → fits_in n rs ≡ true → FitsOneOf rs n
fits n [] e = absurd (cc)
fits n (r ∷ rs) e = elim (one_of (nat_le r.0 r.1 && nat_lt n (256 ^ r.1)) (fits_in n rs) e) [
  | inl f ↦ (let l = fits_last r.0 r.1 n f in (r, r.1, here r rs, l.0, omega arith, l.1))
  | inr f ↦ (let h = fits n rs f in (h.0, h.1, further r h.0 rs h.2, h.3, h.4, h.5))
]

from_fits : (n : ℕ) (rs : List (ℕ × ℕ)) → FitsOneOf rs n → fits_in n rs ≡ true
from_fits n [] h = absurd (none_in h.2)
from_fits n (r ∷ rs) h = elim (first_or_further r h.0 rs h.2) [
  | inl q ↦ (
      let low : r.0 ≤ h.1 = subst (λ (u : ℕ × ℕ). u.0 ≤ h.1) (sym q) h.3 in
      let high : h.1 ≤ r.1 = subst (λ (u : ℕ × ℕ). h.1 ≤ u.1) (sym q) h.4 in
      left_so (nat_le r.0 r.1 && nat_lt n (256 ^ r.1)) (fits_in n rs) (from_last r.0 r.1 n (omega (arith, low, high)) (fits_more h.1 r.1 n high h.5)))
  | inr f ↦ right_so (nat_le r.0 r.1 && nat_lt n (256 ^ r.1)) (fits_in n rs) (from_fits n rs (h.0, h.1, f, h.3, h.4, h.5))
]

pub fitting : (n : ℕ) (rs : List (ℕ × ℕ)) → (fits_in n rs ≡ true) ↔ FitsOneOf rs n
fitting n rs = (fits n rs, from_fits n rs)
