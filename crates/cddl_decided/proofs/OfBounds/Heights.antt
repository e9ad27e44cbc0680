-- What is found by a count is found by a small one: where it takes long, something that it rests on is found one step earlier,
-- and so on down, and these things are all different.
use Rattle.std.proofs.Common.{◌≡◌, ℕ, zero, suc, ◌<◌, ◌≤◌, ◌⊎◌, inl, inr, Bool, true, false, if◌then◌else◌, List, [], ◌∷◌, length, Option, Some, None, is_some, refl, sym, ap, subst, ◌∙◌, arith}
use Rattle.std.proofs.lemmas.Bool.{cases_lt, false≢true}
use Rattle.lists.proofs.Lemmas.{IsIn, one_of}
use Rattle.cddl_decided.proofs.Apart.{AreApart}

-- Different things that are all in a list are no more than it has places.

abbrev without : {A : Type 0} (x : A) (ys : List A) → IsIn x ys → List A
without x [] i = []
without x (y ∷ ys) (inl e) = ys
without x (y ∷ ys) (inr i) = y ∷ without x ys i

one_less : {A : Type 0} (x : A) (ys : List A) (i : IsIn x ys) → length ys ≡ suc (length (without x ys i))
one_less x [] i = absurd i
one_less x (y ∷ ys) (inl e) = refl
one_less x (y ∷ ys) (inr i) = ap suc (one_less x ys i)

still_in : {A : Type 0} (x : A) (ys : List A) (i : IsIn x ys) (z : A) → (z ≡ x → ⊥) → IsIn z ys → IsIn z (without x ys i)
still_in x [] i z n h = absurd i
still_in x (y ∷ ys) (inl e) z n (inl f) = absurd (n (f ∙ sym e))
still_in x (y ∷ ys) (inl e) z n (inr h) = h
still_in x (y ∷ ys) (inr i) z n (inl f) = inl f
still_in x (y ∷ ys) (inr i) z n (inr h) = inr (still_in x ys i z n h)

pub no_more_than : {A : Type 0} (ys xs : List A) → AreApart xs → ((x : A) → IsIn x xs → IsIn x ys) → length xs ≤ length ys
no_more_than ys [] h all = omega arith
no_more_than ys (x ∷ xs) h all =
    let i = all x (inl refl) in
    let fewer = no_more_than (without x ys i) xs h.1 (λ z j. still_in x ys i z (λ e. h.0 (subst (λ w. IsIn w xs) e j)) (all z (inr j))) in
    let one = one_less x ys i in
    omega (arith, fewer, one)

-- what is handed on from each count to the next
pub upwards : (F : ℕ → Type 0) → ((k : ℕ) → F k → F (suc k)) → (k n : ℕ) → k ≤ n → F k → F n
upwards F up k zero l e = subst F (omega (arith, l)) e
upwards F up k (suc n) l e = by (cases_lt n k) (upwards F up k n)
  where
    by : (n < k) ⊎ (k ≤ n) → (k ≤ n → F k → F n) → F (suc n)
    by (inl h) again = subst F (omega (arith, h, l)) e
    by (inr h) again = up n (again h e)

module _ {A : Type 0} (found : ℕ → A → Bool) (more : (k : ℕ) (x : A) → found k x ≡ true → found (suc k) x ≡ true) where
  -- found by one more than this count, and not by it
  abbrev pub IsNew : ℕ → A → Type 0
  IsNew k x = (found k x ≡ false) × (found (suc k) x ≡ true)

  later : (k n : ℕ) (x : A) → k ≤ n → found k x ≡ true → found n x ≡ true
  later k n x l e = upwards (λ j. found j x ≡ true) (λ j. more j x) k n l e

  not_twice : (j k : ℕ) (x : A) → j < k → IsNew j x → IsNew k x → ⊥
  not_twice j k x l h i = false≢true (sym i.0 ∙ later (suc j) k x l h.1)

  module _ (P : A → Type 0) (most : ℕ) (few : (xs : List A) → ((x : A) → IsIn x xs → P x) → AreApart xs → length xs ≤ most) (step : (k : ℕ) (x : A) → P x → IsNew (suc k) x → (y : A) × P y × IsNew k y) where
    -- things on a way, all of one count or less
    record Way (k : ℕ) : Type 0 where
      things : List A
      are : (x : A) → IsIn x things → P x
      apart : AreApart things
      by : (x : A) → IsIn x things → (j : ℕ) × (j ≤ k) × IsNew j x
      many : length things ≡ suc k

    begin : (x : A) → P x → IsNew zero x → Way zero
    begin x p h = record { things = x ∷ []; are = are; apart = (λ i. i, tt); by = by; many = refl }
      where
        are : (y : A) → IsIn y (x ∷ []) → P y
        are y (inl e) = subst P (sym e) p
        are y (inr i) = absurd i

        by : (y : A) → IsIn y (x ∷ []) → (j : ℕ) × (j ≤ zero) × IsNew j y
        by y (inl e) = (zero, omega arith, subst (λ z. IsNew zero z) (sym e) h)
        by y (inr i) = absurd i

    extend : (k : ℕ) (x : A) → P x → IsNew (suc k) x → Way k → Way (suc k)
    extend k x p h w = record { things = x ∷ w.things; are = are; apart = (apart, w.apart); by = by; many = ap suc w.many }
      where
        are : (y : A) → IsIn y (x ∷ w.things) → P y
        are y (inl e) = subst P (sym e) p
        are y (inr i) = w.are y i

        apart : IsIn x w.things → ⊥
        apart i = let b = w.by x i in not_twice b.0 (suc k) x (let l = b.1 in omega (arith, l)) b.2 h

        by : (y : A) → IsIn y (x ∷ w.things) → (j : ℕ) × (j ≤ suc k) × IsNew j y
        by y (inl e) = (suc k, omega arith, subst (λ z. IsNew (suc k) z) (sym e) h)
        by y (inr i) = let b = w.by y i in (b.0, (let l = b.1 in omega (arith, l)), b.2)

    way : (k : ℕ) (x : A) → P x → IsNew k x → Way k
    way zero x p h = begin x p h
    way (suc k) x p h = let s = step k x p h in extend k x p h (way k s.0 s.1 s.2)

    pub is_low : (k : ℕ) (x : A) → P x → IsNew k x → k < most
    is_low k x p h = let w = way k x p h in let l = few w.things w.are w.apart in let m = w.many in omega (arith, l, m)

  -- what is new for small counts alone is found by the greatest of these
  pub is_found : (most : ℕ) (x : A) → ((k : ℕ) → IsNew k x → k < most) → (n : ℕ) → found n x ≡ true → found most x ≡ true
  is_found most x low zero e = later zero most x (omega arith) e
  is_found most x low (suc n) e = by (found n x) refl (is_found most x low n)
    where
      by : (b : Bool) → found n x ≡ b → (found n x ≡ true → found most x ≡ true) → found most x ≡ true
      by true h again = again h
      by false h again = later (suc n) most x (low n (h, e)) e

-- Where what is found is told.

-- the second finds something, and the first does not
abbrev pub IsFirst : {B : Type 0} → Option B → Option B → Type 0
IsFirst o q = (is_some o ≡ false) × (is_some q ≡ true)

pub not_both : {B : Type 0} (o : Option B) → IsFirst o o → ⊥
not_both o h = false≢true (sym h.0 ∙ h.1)

-- of two options that are needed both, one
pub first_of_both : {B : Type 0} (join : Option B → Option B → Option B) → ((a b : B) → is_some (join (Some a) (Some b)) ≡ true) → ((q : Option B) → is_some (join None q) ≡ false) → ((a : B) → is_some (join (Some a) None) ≡ false) → (o q p s : Option B) → IsFirst (join o q) (join p s) → IsFirst o p ⊎ IsFirst q s
first_of_both join some left right None q (Some a) s h = inl (refl, refl)
first_of_both join some left right None q None s h = absurd (false≢true (sym (left s) ∙ h.1))
first_of_both join some left right (Some a) None p (Some b) h = inr (refl, refl)
first_of_both join some left right (Some a) None (Some c) None h = absurd (false≢true (sym (right c) ∙ h.1))
first_of_both join some left right (Some a) None None None h = absurd (false≢true (sym (left None) ∙ h.1))
first_of_both join some left right (Some a) (Some b) p s h = absurd (false≢true (sym h.0 ∙ some a b))

pub first_if : {B : Type 0} (b : Bool) (o q : Option B) → IsFirst (if b then o else None) (if b then q else None) → IsFirst o q
first_if true o q h = h
first_if false o q h = absurd (false≢true h.1)

module _ {A B : Type 0} (f : ℕ → A → Option B) (more : (k n : ℕ) → k ≤ n → (x : A) (v : B) → f k x ≡ Some v → f n x ≡ Some v) where
  pub finds_more : (k : ℕ) (x : A) → is_some (f k x) ≡ true → is_some (f (suc k) x) ≡ true
  finds_more k x h = by (f k x) refl h
    where
      by : (o : Option B) → f k x ≡ o → is_some o ≡ true → is_some (f (suc k) x) ≡ true
      by (Some v) e i = ap is_some (more k (suc k) (omega arith) x v e)
      by None e i = absurd (false≢true i)

  -- where the one count finds something and the other too, it is the same
  pub is_told : (n most : ℕ) (x : A) (v : B) → f n x ≡ Some v → is_some (f most x) ≡ true → f most x ≡ Some v
  is_told n most x v e h = by (cases_lt most n) (f most x) refl h
    where
      by : (most < n) ⊎ (n ≤ most) → (o : Option B) → f most x ≡ o → is_some o ≡ true → f most x ≡ Some v
      by (inr l) o i j = more n most l x v e
      by (inl l) (Some w) i j = i ∙ ap Some (one_of (f n x) w v (more most n (omega (arith, l)) x w i) e)
      by (inl l) None i j = absurd (false≢true j)
