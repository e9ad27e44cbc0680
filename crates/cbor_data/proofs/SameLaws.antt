-- The test answers true exactly at the same value.
use Rattle.std.proofs.Common.{◌≡◌, ℕ, List, [], ◌∷◌, true, ◌&&◌, ◌==◌, refl, sym, ap, ap₂, ◌∙◌, subst, arith}
use Rattle.std.specs.Cmp.{IsEquivalence}
use Rattle.std.proofs.lemmas.Bool.Decides.{nat_tests}
use Rattle.lists.proofs.Lemmas.{both, from_true}
use Rattle.cbor_data.specs.declared.Width.{Width}
use Rattle.cbor_data.specs.declared.Width.TheVariants.{W16, W32, W64}
use Rattle.cbor_data.specs.Value.{Value, uint, nint, bytes, text, array, pairs, tag, simple, float, Values, no_values, value, Pairs, no_pairs, pair}
use Rattle.cbor_data.specs.Same.{same_list, same_width, same_value, same_values, same_pairs}

number : (m n : ℕ) → (m == n) ≡ true → m ≡ n
number m n e = grind (arith, nat_tests)

list : (s t : List ℕ) → same_list s t ≡ true → s ≡ t
list [] [] e = refl
list (x ∷ s) (y ∷ t) e = let b = both (x == y) (same_list s t) e in ap₂ (λ a r. a ∷ r) (number x y b.0) (list s t b.1)
list _ _ e = absurd (cc)

width : (v w : Width) → same_width v w ≡ true → v ≡ w
width W16 W16 e = refl
width W32 W32 e = refl
width W64 W64 e = refl
width _ _ e = absurd (cc)

mutual
  pub same_value-true : (x y : Value) → same_value x y ≡ true → x ≡ y
  same_value-true (uint m) (uint n) e = ap uint (number m n e)
  same_value-true (nint m) (nint n) e = ap nint (number m n e)
  same_value-true (bytes s) (bytes t) e = ap bytes (list s t e)
  same_value-true (text s) (text t) e = ap text (list s t e)
  same_value-true (array xs) (array ys) e = ap array (same_values-true xs ys e)
  same_value-true (pairs ps) (pairs qs) e = ap pairs (same_pairs-true ps qs e)
  same_value-true (tag m x) (tag n y) e = let b = both (m == n) (same_value x y) e in ap₂ tag (number m n b.0) (same_value-true x y b.1)
  same_value-true (simple m) (simple n) e = ap simple (number m n e)
  same_value-true (float v m) (float w n) e = let b = both (same_width v w) (m == n) e in ap₂ float (width v w b.0) (number m n b.1)
  same_value-true _ _ e = absurd (cc)

  pub same_values-true : (xs ys : Values) → same_values xs ys ≡ true → xs ≡ ys
  same_values-true no_values no_values e = refl
  same_values-true (value x xs) (value y ys) e = let b = both (same_value x y) (same_values xs ys) e in ap₂ value (same_value-true x y b.0) (same_values-true xs ys b.1)
  same_values-true _ _ e = absurd (cc)

  pub same_pairs-true : (ps qs : Pairs) → same_pairs ps qs ≡ true → ps ≡ qs
  same_pairs-true no_pairs no_pairs e = refl
  same_pairs-true (pair k v ps) (pair l w qs) e =
      let b = both (same_value k l) (same_value v w && same_pairs ps qs) e in
      let d = both (same_value v w) (same_pairs ps qs) b.1 in
      ap₂ (λ x y. pair x y ps) (same_value-true k l b.0) (same_value-true v w d.0) ∙ ap (pair l w) (same_pairs-true ps qs d.1)
  same_pairs-true _ _ e = absurd (cc)

number_same : (n : ℕ) → (n == n) ≡ true
number_same n = grind (arith, nat_tests)

list_same : (s : List ℕ) → same_list s s ≡ true
list_same [] = refl
list_same (x ∷ s) = ap₂ (λ a b. a && b) (number_same x) (list_same s)

width_same : (w : Width) → same_width w w ≡ true
width_same W16 = refl
width_same W32 = refl
width_same W64 = refl

mutual
  pub same_value-same : (x : Value) → same_value x x ≡ true
  same_value-same (uint n) = number_same n
  same_value-same (nint n) = number_same n
  same_value-same (bytes s) = list_same s
  same_value-same (text s) = list_same s
  same_value-same (array xs) = same_values-same xs
  same_value-same (pairs ps) = same_pairs-same ps
  same_value-same (tag n x) = ap₂ (λ a b. a && b) (number_same n) (same_value-same x)
  same_value-same (simple n) = number_same n
  same_value-same (float w n) = ap₂ (λ a b. a && b) (width_same w) (number_same n)

  pub same_values-same : (xs : Values) → same_values xs xs ≡ true
  same_values-same no_values = refl
  same_values-same (value x xs) = ap₂ (λ a b. a && b) (same_value-same x) (same_values-same xs)

  pub same_pairs-same : (ps : Pairs) → same_pairs ps ps ≡ true
  same_pairs-same no_pairs = refl
  same_pairs-same (pair k v ps) = ap₂ (λ a b. a && b) (same_value-same k) (ap₂ (λ a b. a && b) (same_value-same v) (same_pairs-same ps))

at_same : (x y : Value) → x ≡ y → same_value x y ≡ true
at_same x y e = subst (λ z. same_value x z ≡ true) e (same_value-same x)

-- the test on what is seen is symmetric and transitive
pub same_value-laws : {K : Type 0} (f : K → Value) → IsEquivalence (λ a b. same_value (f a) (f b))
same_value-laws f = record {
  refl = λ a. same_value-same (f a);
  symm = λ a b. from_true (same_value (f a) (f b)) (same_value (f b) (f a)) (λ e. at_same (f b) (f a) (sym (same_value-true (f a) (f b) e))) (λ e. at_same (f a) (f b) (sym (same_value-true (f b) (f a) e)));
  congr = λ a b c d. ap (λ v. same_value v (f c)) (same_value-true (f a) (f b) d);
}
