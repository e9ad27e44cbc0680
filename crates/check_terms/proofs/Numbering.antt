-- The numbers of a list that stays or has one more at its end.
use Rattle.std.proofs.Common.{◌≡◌, ◌≢◌, ◌<◌, ◌-◌, ℕ, zero, suc, Bool, true, false, List, [], ◌∷◌, ◌++◌, length, Some, None, IfSome, IfNone, Option, Result, Ok, Err, refl, sym, ap, subst, ◌∙◌, inl, inr, slice_get, map, take, cond, if◌then◌else◌, arith, true≢false}
use Rattle.std.specs.Prelude.{◌↔◌}
use Rattle.std.specs.Result.{OnOk, OnErr, is_ok, is_err}
use Rattle.lists.proofs.Lemmas.{get_cases as get-cases, get_front as get-before, push_there as get-added}
use Rattle.check_terms.specs.Numbers.{AreNumbered}
use Rattle.check_terms.specs.Table.{AreDistinct}

module _ {A B : Type 0} (eq : A → A → Bool) (view : A → B) (alike : (x y : A) → view x ≡ view y → eq x y ≡ true) (same : (x y : A) → eq x y ≡ true → view x ≡ view y) where
  -- Where one more has the next number, and each other thing the number that it had.
  module _ (old new : A → Option ℕ) (xs : List B) (k : A) (number : ℕ) (is : AreNumbered view old xs) (none : old k ≡ None) (next : number ≡ length xs) (updates : (x : A) → new x ≡ cond (eq k x) (Some number) (old x)) where
    abbrev IsNumbered : A → ℕ → Type 0
    IsNumbered x n = (new x ≡ Some n) ↔ (slice_get (xs ++ view k ∷ []) n ≡ Some (view x))

    the_new : (x : A) (n : ℕ) → eq k x ≡ true → new x ≡ Some number → IsNumbered x n
    the_new x n e f = (to, from)
      where
        place : slice_get (xs ++ view k ∷ []) number ≡ Some (view x)
        place = subst (λ i. slice_get (xs ++ view k ∷ []) i ≡ Some (view x)) (sym next) (get-added xs (view k) ∙ ap Some (same k x e))

        to : new x ≡ Some n → slice_get (xs ++ view k ∷ []) n ≡ Some (view x)
        to g = let m : number ≡ n = cc in subst (λ i. slice_get (xs ++ view k ∷ []) i ≡ Some (view x)) m place

        from : slice_get (xs ++ view k ∷ []) n ≡ Some (view x) → new x ≡ Some n
        from g = elim (get-cases xs (view k) n (view x) g) [ inl h ↦ (let there : old k ≡ Some n = (is k n).1 (h ∙ ap Some (sym (same k x e))) in cc) | inr h ↦ f ∙ ap Some (next ∙ sym h.0) ]

    another : (x : A) (n : ℕ) → eq k x ≡ false → new x ≡ old x → IsNumbered x n
    another x n e f = (to, from)
      where
        to : new x ≡ Some n → slice_get (xs ++ view k ∷ []) n ≡ Some (view x)
        to g = get-before xs (view k ∷ []) n (view x) ((is x n).0 (sym f ∙ g))

        from : slice_get (xs ++ view k ∷ []) n ≡ Some (view x) → new x ≡ Some n
        from g = elim (get-cases xs (view k) n (view x) g) [ inl h ↦ f ∙ (is x n).1 h | inr h ↦ absurd (true≢false (sym (alike k x (sym h.1)) ∙ e)) ]

    pub numbered_more : AreNumbered view new (xs ++ view k ∷ [])
    numbered_more x n = by (eq k x) refl (updates x)
      where
        by : (t : Bool) → eq k x ≡ t → new x ≡ cond t (Some number) (old x) → IsNumbered x n
        by true e f = the_new x n e f
        by false e f = another x n e f

-- No two things of a list are equal where each has its place as its number.
pub numbered_rows : {A : Type 0} (number : A → Option ℕ) (xs : List A) → AreNumbered (λ (x : A). x) number xs → AreDistinct xs
numbered_rows number xs is i j x e f = let h : Some i ≡ Some j = sym ((is x i).1 e) ∙ (is x j).1 f in cc

-- the thing that something in a list is the view of
viewed : {A B : Type 0} (view : A → B) (xs : List A) (i : ℕ) (y : B) → slice_get (map view xs) i ≡ Some y → (x : A) × (view x ≡ y)
viewed view [] i y e = cc
viewed view (x ∷ xs) zero y e = (x, cc)
viewed view (x ∷ xs) (suc i) y e = viewed view xs i y e

pub numbered_texts : {A B : Type 0} (view : A → B) (number : A → Option ℕ) (xs : List A) → AreNumbered view number (map view xs) → AreDistinct (map view xs)
numbered_texts view number xs is i j y e f =
    let x = viewed view xs i y e in
    let h : Some i ≡ Some j = sym ((is x.0 i).1 (e ∙ ap Some (sym x.1))) ∙ (is x.0 j).1 (f ∙ ap Some (sym x.1)) in
    cc

-- What is told of a text that is looked for.
module _ {A : Type 0} (xs : List A) (x : A) where
  pub found : (o : Option ℕ) → ((n : ℕ) → (o ≡ Some n) ↔ (slice_get xs n ≡ Some x)) → IfSome o (λ n. slice_get xs n ≡ Some x)
  found None is = tt
  found (Some n) is = (is n).0 refl

  pub missing : (o : Option ℕ) → ((n : ℕ) → (o ≡ Some n) ↔ (slice_get xs n ≡ Some x)) → IfNone o ((n : ℕ) → n < 4294967296 → slice_get xs n ≢ Some x)
  missing None is = λ n l e. let h : None ≡ Some n = (is n).1 e in cc
  missing (Some m) is = tt

-- What a push, a pop and an insertion leave.

pub when_ok : {T E : Type 0} (r : Result T E) (P : Type 0) → is_err r ≡ false → OnOk r P → P
when_ok (Ok x) P e p = p
when_ok (Err x) P e p = cc

pub when_err : {T E : Type 0} (r : Result T E) (P : Type 0) → is_err r ≡ true → OnErr r P → P
when_err (Ok x) P e p = cc
when_err (Err x) P e p = p

pub pushed : {T E A : Type 0} (r : Result T E) (new old : List A) (x : A) → is_err r ≡ false → new ≡ (if is_ok r then old ++ x ∷ [] else old) → new ≡ old ++ x ∷ []
pushed (Ok t) new old x e is = is
pushed (Err t) new old x e is = cc

all_but_last : {A : Type 0} (xs : List A) (x : A) → take (length xs) (xs ++ x ∷ []) ≡ xs
all_but_last [] x = refl
all_but_last (y ∷ xs) x = ap (λ (ys : List _). y ∷ ys) (all_but_last xs x)

one_longer : {A : Type 0} (xs : List A) (x : A) → length (xs ++ x ∷ []) - 1 ≡ length xs
one_longer [] x = refl
one_longer (y ∷ xs) x = let h = one_longer xs x in omega (arith, h, some xs)
  where
    some : (ys : List _) → 0 < length (ys ++ x ∷ [])
    some [] = omega arith
    some (z ∷ ys) = omega arith

pub popped : {A : Type 0} (old new longer : List A) (x : A) → longer ≡ old ++ x ∷ [] → new ≡ take (length longer - 1) longer → new ≡ old
popped old new longer x e is = is ∙ ap (λ ys. take (length ys - 1) ys) e ∙ ap (λ n. take n (old ++ x ∷ [])) (one_longer old x) ∙ all_but_last old x
