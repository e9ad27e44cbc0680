-- What is at a place of a list.
use Rattle.std.proofs.Common.{◌≡◌, ℕ, zero, suc, ◌+◌, ◌<◌, List, [], ◌∷◌, ◌++◌, length, Some, Result, Ok, Err, IfOk, ◌⊎◌, inl, inr, slice_get, refl, ap, arith}
use Rattle.lists.proofs.Lemmas.{never_some}
use Rattle.check_literals.specs.Sizes.Sources.{In}

pub same_some : {A : Type 0} (x y : A) → Some x ≡ Some y → x ≡ y
same_some x y e = cc

pub lower : (i k : ℕ) → i < k + 1 → (i ≡ k → ⊥) → i < k
lower zero zero l n = absurd (n refl)
lower zero (suc k) l n = omega arith
lower (suc i) zero l n = absurd (omega (arith, l))
lower (suc i) (suc k) l n = let h = lower i k (omega (arith, l)) (λ e. n (ap suc e)) in omega (arith, h)

-- a place that is written

-- a list that grew by one

pub below_push : {A : Type 0} (xs : List A) (v : A) (i : ℕ) → i < length xs → slice_get (xs ++ v ∷ []) i ≡ slice_get xs i
below_push [] v i l = absurd (omega (arith, l))
below_push (y ∷ xs) v zero l = refl
below_push (y ∷ xs) v (suc i) l = below_push xs v i (omega (arith, l))

-- numbers in a list

pub in_before : (xs : List ℕ) (t b : ℕ) → In xs b → In (xs ++ t ∷ []) b
in_before [] t b h = absurd h
in_before (x ∷ xs) t b (inl e) = inl e
in_before (x ∷ xs) t b (inr h) = inr (in_before xs t b h)

pub in_last : (xs : List ℕ) (t : ℕ) → In (xs ++ t ∷ []) t
in_last [] t = inl refl
in_last (x ∷ xs) t = inr (in_last xs t)

pub in_push : (xs : List ℕ) (t b : ℕ) → In (xs ++ t ∷ []) b → (t ≡ b) ⊎ In xs b
in_push [] t b (inl e) = inl e
in_push [] t b (inr h) = absurd h
in_push (x ∷ xs) t b (inl e) = inr (inl e)
in_push (x ∷ xs) t b (inr h) = elim (in_push xs t b h) [ inl e ↦ inl e | inr k ↦ inr (inr k) ]

pub in_at : (xs : List ℕ) (i b : ℕ) → slice_get xs i ≡ Some b → In xs b
in_at [] i b e = absurd (never_some b e)
in_at (x ∷ xs) zero b e = inl (same_some x b e)
in_at (x ∷ xs) (suc i) b e = inr (in_at xs i b e)

pub place_in : (xs : List ℕ) (b : ℕ) → In xs b → (i : ℕ) × (slice_get xs i ≡ Some b)
place_in [] b h = absurd h
place_in (x ∷ xs) b (inl e) = (zero, ap Some e)
place_in (x ∷ xs) b (inr h) = let p = place_in xs b h in (suc p.0, p.1)

pub ok_with : {A E : Type 0} (r : Result A E) (P Q R : A → Type 0) → ((v : A) → P v → Q v → R v) → IfOk r P → IfOk r Q → IfOk r R
ok_with (Ok v) P Q R f h g = f v h g
ok_with (Err e) P Q R f h g = h
