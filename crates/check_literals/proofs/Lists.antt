-- Lists with one more element, or with one changed.
use Rattle.std.proofs.Common.{◌≡◌, ℕ, zero, suc, ◌<◌, ◌⊎◌, inl, inr, List, [], ◌∷◌, ◌++◌, length, Some, slice_get, refl, ap, arith}

same_some : {A : Type 0} (x y : A) → Some x ≡ Some y → x ≡ y
same_some x y e = cc

pub last_or : {A : Type 0} (xs : List A) (y : A) (k : ℕ) (e : A) → slice_get (xs ++ y ∷ []) k ≡ Some e → (slice_get xs k ≡ Some e) ⊎ ((k ≡ length xs) × (y ≡ e))
last_or [] y zero e h = inr (refl, same_some y e h)
last_or [] y (suc k) e h = absurd (cc)
last_or (x ∷ xs) y zero e h = inl h
last_or (x ∷ xs) y (suc k) e h = elim (last_or xs y k e h) [ inl g ↦ inl g | inr g ↦ inr (ap suc g.0, g.1) ]

pub first_of : {A : Type 0} (xs ys : List A) (k : ℕ) → k < length xs → slice_get (xs ++ ys) k ≡ slice_get xs k
first_of [] ys k h = absurd (omega (arith, h))
first_of (x ∷ xs) ys zero h = refl
first_of (x ∷ xs) ys (suc k) h = first_of xs ys k (omega (arith, h))
