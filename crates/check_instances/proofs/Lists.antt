-- What is in a list.
use Rattle.std.proofs.Common.{◌≡◌, ◌≢◌, ℕ, zero, suc, ◌<◌, ◌⊎◌, inl, inr, List, [], ◌∷◌, ◌++◌, map, length, refl, sym, ap, subst, arith, get_or, Some, None, slice_get}
use Rattle.std.specs.Prelude.{AllPairs, Contains, flat_map}
use Rattle.check_instances.specs.Lists.{AreApart, IsIn}

pub in_left : {A : Type 0} (xs ys : List A) (x : A) → IsIn x xs → IsIn x (xs ++ ys)
in_left [] ys x h = absurd h
in_left (z ∷ xs) ys x (inl e) = inl e
in_left (z ∷ xs) ys x (inr h) = inr (in_left xs ys x h)

pub in_right : {A : Type 0} (xs ys : List A) (x : A) → IsIn x ys → IsIn x (xs ++ ys)
in_right [] ys x h = h
in_right (z ∷ xs) ys x h = inr (in_right xs ys x h)

pub in_cases : {A : Type 0} (xs ys : List A) (x : A) → IsIn x (xs ++ ys) → IsIn x xs ⊎ IsIn x ys
in_cases [] ys x h = inr h
in_cases (z ∷ xs) ys x (inl e) = inl (inl e)
in_cases (z ∷ xs) ys x (inr h) = by (in_cases xs ys x h)
  where
    by : IsIn x xs ⊎ IsIn x ys → IsIn x (z ∷ xs) ⊎ IsIn x ys
    by (inl g) = inl (inr g)
    by (inr g) = inr g

pub from_map : {A B : Type 0} (f : A → B) (xs : List A) (y : B) → IsIn y (map f xs) → (x : A) × IsIn x xs × (y ≡ f x)
from_map f [] y h = absurd h
from_map f (x ∷ xs) y (inl e) = (x, inl refl, e)
from_map f (x ∷ xs) y (inr h) = let r = from_map f xs y h in (r.0, inr r.1, r.2)

pub to_map : {A B : Type 0} (f : A → B) (xs : List A) (x : A) → IsIn x xs → IsIn (f x) (map f xs)
to_map f [] x h = absurd h
to_map f (z ∷ xs) x (inl e) = inl (ap f e)
to_map f (z ∷ xs) x (inr h) = inr (to_map f xs x h)

pub from_flat : {A B : Type 0} (f : A → List B) (xs : List A) (y : B) → IsIn y (flat_map f xs) → (x : A) × IsIn x xs × IsIn y (f x)
from_flat f [] y h = absurd h
from_flat {A = A} f (x ∷ xs) y h = by (in_cases (f x) (flat_map f xs) y h) (from_flat f xs y)
  where
    by : IsIn y (f x) ⊎ IsIn y (flat_map f xs) → (IsIn y (flat_map f xs) → (z : A) × IsIn z xs × IsIn y (f z)) → (z : A) × IsIn z (x ∷ xs) × IsIn y (f z)
    by (inl g) r = (x, inl refl, g)
    by (inr g) r = let q = r g in (q.0, inr q.1, q.2)

pub to_flat : {A B : Type 0} (f : A → List B) (xs : List A) (x : A) (y : B) → IsIn x xs → IsIn y (f x) → IsIn y (flat_map f xs)
to_flat f [] x y h g = absurd h
to_flat f (z ∷ xs) x y (inl e) g = in_left (f z) (flat_map f xs) y (subst (λ w. IsIn y (f w)) e g)
to_flat f (z ∷ xs) x y (inr h) g = in_right (f z) (flat_map f xs) y (to_flat f xs x y h g)

pub to_contains : {A : Type 0} (xs : List A) (x : A) → IsIn x xs → Contains xs x
to_contains [] x h = absurd h
to_contains (y ∷ ys) x (inl e) = (0, omega arith, sym e)
to_contains (y ∷ ys) x (inr h) = let c = to_contains ys x h in (suc c.0, omega (arith, c.1), c.2)

from_place : {A : Type 0} (xs : List A) (x : A) (k : ℕ) → k < length xs → get_or xs k x ≡ x → IsIn x xs
from_place [] x k l e = absurd (omega (arith, l))
from_place (y ∷ ys) x zero l e = inl (sym e)
from_place (y ∷ ys) x (suc k) l e = inr (from_place ys x k (omega (arith, l)) e)

pub from_contains : {A : Type 0} (xs : List A) (x : A) → Contains xs x → IsIn x xs
from_contains xs x c = from_place xs x c.0 c.1 c.2

pub from_get : {A : Type 0} (xs : List A) (k : ℕ) (x : A) → slice_get xs k ≡ Some x → IsIn x xs
from_get [] k x e = cc
from_get (y ∷ ys) zero x e = inl (cc)
from_get (y ∷ ys) (suc k) x e = inr (from_get ys k x e)

-- Lists without an element twice.

pub apart_push : {A : Type 0} (xs : List A) (x : A) → AreApart xs → (IsIn x xs → ⊥) → AreApart (xs ++ x ∷ [])
apart_push [] x h n = (λ g. g, tt)
apart_push (y ∷ ys) x h n = (λ g. by (in_cases ys (x ∷ []) y g), apart_push ys x h.1 (λ g. n (inr g)))
  where
    by : IsIn y ys ⊎ IsIn y (x ∷ []) → ⊥
    by (inl g) = h.0 g
    by (inr (inl e)) = n (inl (sym e))
    by (inr (inr g)) = g

pub read_in : {A : Type 0} (xs : List A) (k : ℕ) (d : A) → k < length xs → IsIn (get_or xs k d) xs
read_in [] k d l = absurd (omega (arith, l))
read_in (x ∷ xs) zero d l = inl refl
read_in (x ∷ xs) (suc k) d l = inr (read_in xs k d (omega (arith, l)))

pub pairs : {A : Type 0} (xs : List A) → AreApart xs → AllPairs (λ (q r : A). q ≢ r) xs
pairs [] h i j d l m = absurd (omega (arith, m))
pairs (x ∷ xs) h zero zero d l m = absurd (omega (arith, l))
pairs (x ∷ xs) h zero (suc j) d l m = λ e. h.0 (subst (λ z. IsIn z xs) (sym e) (read_in xs j d (omega (arith, m))))
pairs (x ∷ xs) h (suc i) zero d l m = absurd (omega (arith, l))
pairs (x ∷ xs) h (suc i) (suc j) d l m = pairs xs h.1 i j d (omega (arith, l)) (omega (arith, m))

-- What is at the end of a list.

pub none_after : {A : Type 0} (xs ys : List A) → slice_get (xs ++ ys) (length xs) ≡ None → ys ≡ []
none_after [] [] e = refl
none_after [] (y ∷ ys) e = cc
none_after (x ∷ xs) ys e = none_after xs ys e

pub one_after : {A : Type 0} (xs ys : List A) (z : A) → slice_get (xs ++ ys) (length xs) ≡ Some z → (zs : List A) × (ys ≡ z ∷ zs)
one_after [] [] z e = cc
one_after {A = A} [] (y ∷ ys) z e = let h : y ≡ z = cc in (ys, ap (λ (w : A). w ∷ ys) h)
one_after (x ∷ xs) ys z e = one_after xs ys z e
