-- What is in a list, and at its places.
use Rattle.std.proofs.Common.{◌≡◌, ℕ, zero, suc, ◌<◌, Bool, true, false, List, [], ◌∷◌, length, refl, ap, arith, get_or, Some, slice_get, slice_index_or}

-- flags, where those that are not there are not set

pub from_set : (flags : List Bool) (n : ℕ) → slice_index_or flags n false ≡ true → slice_get flags n ≡ Some true
from_set [] n e = cc
from_set (b ∷ flags) zero e = ap Some e
from_set (b ∷ flags) (suc n) e = from_set flags n e

pub to_set : (flags : List Bool) (n : ℕ) → slice_get flags n ≡ Some true → slice_index_or flags n false ≡ true
to_set [] n e = cc
to_set (b ∷ flags) zero e = cc
to_set (b ∷ flags) (suc n) e = to_set flags n e

-- what is at a place, where something is
pub at_place : {A : Type 0} (xs : List A) (n : ℕ) (d : A) → n < length xs → slice_get xs n ≡ Some (get_or xs n d)
at_place [] n d l = absurd (omega (arith, l))
at_place (x ∷ xs) zero d l = refl
at_place (x ∷ xs) (suc n) d l = at_place xs n d (omega (arith, l))
