-- What is in a list, and at its places.
use Rattle.std.proofs.Common.{◌≡◌, ℕ, zero, suc, ◌+◌, ◌<◌, ◌⊎◌, inl, inr, List, [], ◌∷◌, ◌++◌, length, drop, get_or, Option, Some, slice_get, refl, sym, ap, ◌∙◌, arith}
use Rattle.std.specs.List.{Contains}
use Rattle.std.proofs.Math.Seq.{drop-cons}
use Rattle.std.proofs.lemmas.Option.{get_or_from_slice_get, slice_get_read, slice_get_within}

module _ {A : Type 0} where
  abbrev pub IsIn : A → List A → Type 0
  IsIn x [] = ⊥
  IsIn x (y ∷ ys) = (x ≡ y) ⊎ IsIn x ys

  pub at_place : (xs : List A) (k : ℕ) (x : A) → slice_get xs k ≡ Some x → IsIn x xs
  at_place [] k x e = cc
  at_place (y ∷ xs) zero x e = let same : x ≡ y = cc in inl same
  at_place (y ∷ xs) (suc k) x e = inr (at_place xs k x e)

  pub place_in : (xs : List A) (x : A) → IsIn x xs → (k : ℕ) × (slice_get xs k ≡ Some x)
  place_in [] x h = absurd h
  place_in (y ∷ xs) x (inl e) = (0, ap Some (sym e))
  place_in (y ∷ xs) x (inr h) = let w = place_in xs x h in (suc w.0, w.1)

  pub is_in : (xs : List A) (x : A) → Contains xs x → IsIn x xs
  is_in xs x h = at_place xs h.0 x (slice_get_read xs (length xs) h.0 x refl h.1 (sym h.2))

  pub contains : (xs : List A) (x : A) → IsIn x xs → Contains xs x
  contains xs x h = let w = place_in xs x h in (w.0, slice_get_within xs w.0 x w.1, get_or_from_slice_get xs w.0 x x w.1)

  pub contained_place : (xs : List A) (x : A) → Contains xs x → (k : ℕ) × (slice_get xs k ≡ Some x)
  contained_place xs x h = (h.0, slice_get_read xs (length xs) h.0 x refl h.1 (sym h.2))

  pub in_either : (xs ys : List A) (x : A) → IsIn x (xs ++ ys) → IsIn x xs ⊎ IsIn x ys
  in_either [] ys x h = inr h
  in_either (y ∷ xs) ys x (inl e) = inl (inl e)
  in_either (y ∷ xs) ys x (inr h) = elim (in_either xs ys x h) [ inl k ↦ inl (inr k) | inr k ↦ inr k ]

  pub in_first : (xs ys : List A) (x : A) → IsIn x xs → IsIn x (xs ++ ys)
  in_first [] ys x h = absurd h
  in_first (y ∷ xs) ys x (inl e) = inl e
  in_first (y ∷ xs) ys x (inr h) = inr (in_first xs ys x h)

  pub in_second : (xs ys : List A) (x : A) → IsIn x ys → IsIn x (xs ++ ys)
  in_second [] ys x h = h
  in_second (y ∷ xs) ys x h = inr (in_second xs ys x h)

  pub none_more : (xs : List A) → xs ++ [] ≡ xs
  none_more [] = refl
  none_more (x ∷ xs) = ap (λ (ys : List A). x ∷ ys) (none_more xs)

  pub next_drop : (xs : List A) (i : ℕ) (d : A) → i < length xs → drop i xs ≡ get_or xs i d ∷ drop (i + 1) xs
  next_drop xs i d l = drop-cons xs i d l ∙ ap (λ j. get_or xs i d ∷ drop j xs) step
    where
      step : suc i ≡ i + 1
      step = omega arith

  pub one_of : (o : Option A) (x y : A) → o ≡ Some x → o ≡ Some y → x ≡ y
  one_of o x y e f = cc
