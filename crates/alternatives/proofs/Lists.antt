-- What is at a place of a list.
use Rattle.std.proofs.Common.{◌≡◌, ℕ, zero, suc, ◌+◌, ◌<◌, ◌≤◌, List, [], ◌∷◌, ◌++◌, length, take, set, replicate, Bool, true, false, Some, ◌⊎◌, inl, inr, slice_get, slice_index_or, refl, ap, subst, arith}
use Rattle.lists.proofs.Lemmas.{never_some}
use Rattle.alternatives.specs.Search.{count_unseen}
use Rattle.alternatives.proofs.Once.{same_some}

pub true_false : {A : Type 0} → true ≡ false → A
true_false e = cc

-- what is read, where there is something

pub read_there : {A : Type 0} (xs : List A) (i : ℕ) (d x : A) → slice_get xs i ≡ Some x → slice_index_or xs i d ≡ x
read_there [] i d x e = absurd (never_some x e)
read_there (y ∷ xs) zero d x e = same_some y x e
read_there (y ∷ xs) (suc i) d x e = read_there xs i d x e

pub read_past : {A : Type 0} (xs : List A) (i : ℕ) (d : A) → length xs ≤ i → slice_index_or xs i d ≡ d
read_past [] i d h = refl
read_past (y ∷ xs) zero d h = absurd (omega (arith, h))
read_past (y ∷ xs) (suc i) d h = read_past xs i d (omega (arith, h))

pub false_there : (xs : List Bool) (i : ℕ) → slice_index_or xs i true ≡ false → slice_get xs i ≡ Some false
false_there [] i e = true_false e
false_there (y ∷ xs) zero e = ap Some e
false_there (y ∷ xs) (suc i) e = false_there xs i e

-- a place that is written

pub after_set : {A : Type 0} (xs : List A) (i j : ℕ) (v x : A) → slice_get (set xs i v) j ≡ Some x → ((i ≡ j) × (v ≡ x)) ⊎ ((i ≡ j → ⊥) × (slice_get xs j ≡ Some x))
after_set [] i j v x e = absurd (never_some x e)
after_set (y ∷ xs) zero zero v x e = inl (refl, same_some v x e)
after_set (y ∷ xs) zero (suc j) v x e = inr ((λ h. omega (arith, h)), e)
after_set (y ∷ xs) (suc i) zero v x e = inr ((λ h. omega (arith, h)), e)
after_set (y ∷ xs) (suc i) (suc j) v x e = elim (after_set xs i j v x e) [ inl h ↦ inl (ap suc h.0, h.1) | inr h ↦ inr ((λ k. h.0 (omega (arith, k))), h.1) ]

pub still_true : (xs : List Bool) (i j : ℕ) → slice_get xs j ≡ Some true → slice_get (set xs i true) j ≡ Some true
still_true [] i j e = e
still_true (y ∷ xs) zero zero e = refl
still_true (y ∷ xs) zero (suc j) e = e
still_true (y ∷ xs) (suc i) zero e = e
still_true (y ∷ xs) (suc i) (suc j) e = still_true xs i j e

-- a list that grew by one, or lost its last

pub after_push : {A : Type 0} (xs : List A) (v : A) (i : ℕ) (x : A) → slice_get (xs ++ v ∷ []) i ≡ Some x → ((length xs ≡ i) × (v ≡ x)) ⊎ (slice_get xs i ≡ Some x)
after_push [] v zero x e = inl (refl, same_some v x e)
after_push [] v (suc i) x e = absurd (never_some x e)
after_push (y ∷ xs) v zero x e = inr e
after_push (y ∷ xs) v (suc i) x e = elim (after_push xs v i x e) [ inl h ↦ inl (ap suc h.0, h.1) | inr h ↦ inr h ]

pub take_there : {A : Type 0} (k : ℕ) (xs : List A) (i : ℕ) (x : A) → slice_get (take k xs) i ≡ Some x → slice_get xs i ≡ Some x
take_there zero xs i x e = absurd (never_some x e)
take_there (suc k) [] i x e = absurd (never_some x e)
take_there (suc k) (y ∷ xs) zero x e = e
take_there (suc k) (y ∷ xs) (suc i) x e = take_there k xs i x e

pub take_before : {A : Type 0} (k : ℕ) (xs : List A) (i : ℕ) (x : A) → slice_get xs i ≡ Some x → i < k → slice_get (take k xs) i ≡ Some x
take_before zero xs i x e h = absurd (omega (arith, h))
take_before (suc k) [] i x e h = absurd (never_some x e)
take_before (suc k) (y ∷ xs) zero x e h = e
take_before (suc k) (y ∷ xs) (suc i) x e h = take_before k xs i x e (omega (arith, h))

pub replicate_at : {A : Type 0} (n : ℕ) (v : A) (i : ℕ) (x : A) → slice_get (replicate n v) i ≡ Some x → v ≡ x
replicate_at zero v i x e = absurd (never_some x e)
replicate_at (suc n) v zero x e = same_some v x e
replicate_at (suc n) v (suc i) x e = replicate_at n v i x e

pub none_left : {A : Type 0} (xs : List A) (i : ℕ) (x : A) → xs ≡ [] → slice_get xs i ≡ Some x → ⊥
none_left xs i x e h = never_some x (subst (λ ys. slice_get ys i ≡ Some x) e h)

pub one_seen : (xs : List Bool) (i : ℕ) → slice_index_or xs i true ≡ false → count_unseen (set xs i true) + 1 ≡ count_unseen xs
one_seen [] i e = true_false e
one_seen (true ∷ xs) zero e = true_false e
one_seen (false ∷ xs) zero e = omega arith
one_seen (true ∷ xs) (suc i) e = one_seen xs i e
one_seen (false ∷ xs) (suc i) e = let h = one_seen xs i e in omega (arith, h)
