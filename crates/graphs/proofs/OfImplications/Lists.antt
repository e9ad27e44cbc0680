-- What is at a place of a list.
use Rattle.std.proofs.Common.{◌≡◌, ℕ, zero, suc, ◌+◌, ◌<◌, ◌≤◌, List, [], ◌∷◌, ◌++◌, length, set, Bool, true, false, Some, ◌⊎◌, inl, inr, slice_get, slice_index_or, refl, ap, arith}
use Rattle.lists.proofs.Lemmas.{not_both}
use Rattle.graphs.specs.Implications.Search.{In}

pub same_some : {A : Type 0} (x y : A) → Some x ≡ Some y → x ≡ y
same_some x y e = cc

pub apart : (a b : ℕ) → a ≤ b → (a ≡ b → ⊥) → a < b
apart zero zero l q = absurd (q refl)
apart zero (suc b) l q = omega arith
apart (suc a) zero l q = absurd (omega (arith, l))
apart (suc a) (suc b) l q = let h = apart a b (omega (arith, l)) (λ e. q (ap suc e)) in omega (arith, h)

-- a place that is written

pub index_other : (xs : List Bool) (i j : ℕ) (v d : Bool) → (i ≡ j → ⊥) → slice_index_or (set xs i v) j d ≡ slice_index_or xs j d
index_other [] i j v d n = refl
index_other (y ∷ xs) zero zero v d n = absurd (n refl)
index_other (y ∷ xs) zero (suc j) v d n = refl
index_other (y ∷ xs) (suc i) zero v d n = refl
index_other (y ∷ xs) (suc i) (suc j) v d n = index_other xs i j v d (λ e. n (ap suc e))

pub index_set : (xs : List Bool) (i : ℕ) → slice_index_or (set xs i true) i true ≡ true
index_set [] i = refl
index_set (y ∷ xs) zero = refl
index_set (y ∷ xs) (suc i) = index_set xs i

-- where the default is not what was read, something is there

pub read_true : (xs : List Bool) (i : ℕ) → slice_index_or xs i false ≡ true → slice_get xs i ≡ Some true
read_true [] i e = cc
read_true (y ∷ xs) zero e = ap Some e
read_true (y ∷ xs) (suc i) e = read_true xs i e

pub true_read : (xs : List Bool) (i : ℕ) → slice_get xs i ≡ Some true → slice_index_or xs i false ≡ true
true_read [] i e = cc
true_read (y ∷ xs) zero e = cc
true_read (y ∷ xs) (suc i) e = true_read xs i e

pub read_within : (xs : List Bool) (i : ℕ) → i < length xs → slice_index_or xs i true ≡ true → slice_get xs i ≡ Some true
read_within [] i l e = absurd (omega (arith, l))
read_within (y ∷ xs) zero l e = ap Some e
read_within (y ∷ xs) (suc i) l e = read_within xs i (omega (arith, l)) e

pub false_within : (xs : List Bool) (i : ℕ) → slice_index_or xs i true ≡ false → i < length xs
false_within [] i e = absurd (not_both true refl e)
false_within (y ∷ xs) zero e = omega arith
false_within (y ∷ xs) (suc i) e = let l = false_within xs i e in omega (arith, l)

-- a list that grew by one

-- facts that wait

pub in_before : (xs : List ℕ) (t b : ℕ) → In xs b → In (xs ++ t ∷ []) b
in_before [] t b h = absurd h
in_before (x ∷ xs) t b (inl e) = inl e
in_before (x ∷ xs) t b (inr h) = inr (in_before xs t b h)

pub in_last : (xs : List ℕ) (t : ℕ) → In (xs ++ t ∷ []) t
in_last [] t = inl refl
in_last (x ∷ xs) t = inr (in_last xs t)

pub in_push : (xs : List ℕ) (t b : ℕ) → In (xs ++ t ∷ []) b → (t ≡ b) ⊎ In xs b
in_push [] t b (inl e) = inl e
in_push [] t b (inr h) = absurd h
in_push (x ∷ xs) t b (inl e) = inr (inl e)
in_push (x ∷ xs) t b (inr h) = elim (in_push xs t b h) [ inl e ↦ inl e | inr k ↦ inr (inr k) ]
