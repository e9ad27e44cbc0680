-- The least of the offsets that a list's elements have is the least at which any of them stands.
use Rattle.std.proofs.Common.{◌≡◌, ℕ, zero, suc, ◌+◌, ◌⊎◌, inl, inr, List, [], ◌∷◌, length, Option, Some, None, slice_get, refl, sym, subst, arith}
use Rattle.std.specs.List.{Contains}
use Rattle.std.proofs.lemmas.Option.{get_or_from_slice_get, same_Some, slice_get_read, slice_get_within}
use Rattle.lists.specs.Least.{IsLeast, lesser_of}
use Rattle.lists.proofs.Lemmas.{same_least as alike, lesser_least as either}
use Rattle.check_root.specs.Least.{least_from, least_over}

is_itself : (o : Option ℕ) → IsLeast (λ at. o ≡ Some at) o
is_itself None = λ p e. cc
is_itself (Some a) = (refl, λ p e. let same = same_Some a p e in omega (arith, same))

module _ {A : Type 0} (f : ℕ → A → Option ℕ) where
  -- an element has the offset, where the first is at this place
  abbrev AnyOf : ℕ → List A → ℕ → Type 0
  AnyOf k [] at = ⊥
  AnyOf k (x ∷ xs) at = (f k x ≡ Some at) ⊎ AnyOf (k + 1) xs at

  least_after : (L : ℕ → Type 0) (k : ℕ) (l : Option ℕ) → IsLeast L l → (xs : List A) → IsLeast (λ at. L at ⊎ AnyOf k xs at) (least_from f k l xs)
  least_after L k l h [] = alike L (λ at. L at ⊎ ⊥) (λ p e. inl e) back l h
    where
      back : (p : ℕ) → L p ⊎ ⊥ → L p
      back p (inl e) = e
      back p (inr e) = absurd e
  least_after L k l h (x ∷ xs) = alike (λ at. (L at ⊎ (f k x ≡ Some at)) ⊎ AnyOf (k + 1) xs at) (λ at. L at ⊎ ((f k x ≡ Some at) ⊎ AnyOf (k + 1) xs at)) there back (least_from f (k + 1) (lesser_of l (f k x)) xs) (least_after (λ at. L at ⊎ (f k x ≡ Some at)) (k + 1) (lesser_of l (f k x)) (either L (λ at. f k x ≡ Some at) l (f k x) h (is_itself (f k x))) xs)
    where
      there : (p : ℕ) → (L p ⊎ (f k x ≡ Some p)) ⊎ AnyOf (k + 1) xs p → L p ⊎ ((f k x ≡ Some p) ⊎ AnyOf (k + 1) xs p)
      there p (inl (inl e)) = inl e
      there p (inl (inr e)) = inr (inl e)
      there p (inr e) = inr (inr e)

      back : (p : ℕ) → L p ⊎ ((f k x ≡ Some p) ⊎ AnyOf (k + 1) xs p) → (L p ⊎ (f k x ≡ Some p)) ⊎ AnyOf (k + 1) xs p
      back p (inl e) = inl (inl e)
      back p (inr (inl e)) = inl (inr e)
      back p (inr (inr e)) = inr e

  any_at : (k : ℕ) (xs : List A) (i : ℕ) (x : A) (at : ℕ) → slice_get xs i ≡ Some x → f (k + i) x ≡ Some at → AnyOf k xs at
  any_at k [] i x at e h = cc
  any_at k (y ∷ xs) zero x at e h = inl (subst (λ j. f j y ≡ Some at) (the_same k) (subst (λ z. f (k + 0) z ≡ Some at) (sym (same_Some y x e)) h))
    where
      the_same : (k : ℕ) → k + 0 ≡ k
      the_same k = omega arith
  any_at k (y ∷ xs) (suc i) x at e h = inr (any_at (k + 1) xs i x at e (subst (λ j. f j x ≡ Some at) (further k i) h))
    where
      further : (k i : ℕ) → k + suc i ≡ k + 1 + i
      further k i = omega arith

  at_any : (k : ℕ) (xs : List A) (at : ℕ) → AnyOf k xs at → (i : ℕ) × (x : A) × (slice_get xs i ≡ Some x) × (f (k + i) x ≡ Some at)
  at_any k [] at h = absurd h
  at_any k (x ∷ xs) at (inl e) = (0, x, refl, subst (λ j. f j x ≡ Some at) (the_same k) e)
    where
      the_same : (k : ℕ) → k ≡ k + 0
      the_same k = omega arith
  at_any k (x ∷ xs) at (inr h) = let w = at_any (k + 1) xs at h in (suc w.0, w.1, w.2, subst (λ j. f j w.1 ≡ Some at) (further k w.0) w.3)
    where
      further : (k i : ℕ) → k + 1 + i ≡ k + suc i
      further k i = omega arith

  -- What stands exactly at the offsets of the elements has that least offset.
  pub least_at_places : (P : ℕ → Type 0) (xs : List A) → ((i : ℕ) (x : A) (at : ℕ) → slice_get xs i ≡ Some x → f i x ≡ Some at → P at) → ((at : ℕ) → P at → (i : ℕ) × (x : A) × (slice_get xs i ≡ Some x) × (f i x ≡ Some at)) → IsLeast P (least_from f 0 None xs)
  least_at_places P xs sound complete = alike (λ at. ⊥ ⊎ AnyOf 0 xs at) P there back (least_from f 0 None xs) (least_after (λ at. ⊥) 0 None (λ p e. e) xs)
    where
      from_first : (i : ℕ) → 0 + i ≡ i
      from_first i = omega arith

      there : (p : ℕ) → ⊥ ⊎ AnyOf 0 xs p → P p
      there p (inl e) = absurd e
      there p (inr h) = let w = at_any 0 xs p h in sound w.0 w.1 p w.2 (subst (λ j. f j w.1 ≡ Some p) (from_first w.0) w.3)

      back : (p : ℕ) → P p → ⊥ ⊎ AnyOf 0 xs p
      back p h = let w = complete p h in inr (any_at 0 xs w.0 w.1 p w.2 (subst (λ j. f j w.1 ≡ Some p) (sym (from_first w.0)) w.3))

-- where it does not depend on the place
module _ {A : Type 0} (f : A → Option ℕ) where
  same_least : (k : ℕ) (l : Option ℕ) (xs : List A) → least_from (λ j. f) k l xs ≡ least_over f l xs
  same_least k l [] = refl
  same_least k l (x ∷ xs) = same_least (k + 1) (lesser_of l (f x)) xs

  pub least_of_all : (P : ℕ → Type 0) (xs : List A) → ((i : ℕ) (x : A) (at : ℕ) → slice_get xs i ≡ Some x → f x ≡ Some at → P at) → ((at : ℕ) → P at → (i : ℕ) × (x : A) × (slice_get xs i ≡ Some x) × (f x ≡ Some at)) → IsLeast P (least_over f None xs)
  least_of_all P xs sound complete = subst (IsLeast P) (same_least 0 None xs) (least_at_places (λ j. f) P xs sound complete)

  -- as the least of all, by the members of the list
  pub least_of_members : (P : ℕ → Type 0) (xs : List A) → ((x : A) (at : ℕ) → Contains xs x → f x ≡ Some at → P at) → ((at : ℕ) → P at → (x : A) × (Contains xs x × (f x ≡ Some at))) → IsLeast P (least_over f None xs)
  least_of_members P xs sound complete = least_of_all P xs (λ i x at e h. sound x at (i, slice_get_within xs i x e, get_or_from_slice_get xs i x x e) h) there
    where
      there : (at : ℕ) → P at → (i : ℕ) × (x : A) × (slice_get xs i ≡ Some x) × (f x ≡ Some at)
      there at h = let w = complete at h in (w.1.0.0, w.0, slice_get_read xs (length xs) w.1.0.0 w.0 refl w.1.0.1 (sym w.1.0.2), w.1.1)
