-- What is in a list, and at its places.
use Rattle.std.proofs.Common.{◌≡◌, ℕ, zero, suc, inl, inr, List, [], ◌∷◌, map, length, refl, arith, Some, slice_get}
use Rattle.lists.proofs.Lemmas.{IsIn}

-- in what a function makes of a list, there is what it makes of an element
pub in_map : {A B : Type 0} (f : A → B) (xs : List A) (y : B) → IsIn y (map f xs) → (x : A) × IsIn x xs × (y ≡ f x)
in_map f [] y h = absurd h
in_map f (x ∷ xs) y (inl e) = (x, inl refl, e)
in_map f (x ∷ xs) y (inr h) = let r = in_map f xs y h in (r.0, inr r.1, r.2)

-- where one list has an element, so has one that is as long
pub as_long : {A B : Type 0} (xs : List A) (ys : List B) (k : ℕ) (x : A) → length xs ≡ length ys → slice_get xs k ≡ Some x → (y : B) × (slice_get ys k ≡ Some y)
as_long [] ys k x l e = cc
as_long (z ∷ xs) [] k x l e = cc
as_long (z ∷ xs) (y ∷ ys) zero x l e = (y, refl)
as_long (z ∷ xs) (y ∷ ys) (suc k) x l e = as_long xs ys k x same e
  where
    same : length xs ≡ length ys
    same = omega (arith, l)
