-- How a search goes on over lists one after the other.
use Rattle.std.proofs.Common.{◌≡◌, ◌≢◌, ℕ, zero, suc, ◌-◌, List, [], ◌∷◌, ◌++◌, map, slice_get, Result, Ok, Err, refl, ap, arith}
use Rattle.std.specs.Option.{option_map}
use Rattle.std.specs.Result.{result_ok, result_map_both}
use Rattle.cbor_item.specs.Place.Elements.{element_or_rest}

-- it ends in the first
pub element_in : {A : Type 0} (xs ys : List A) (i : ℕ) (x : A) → element_or_rest xs i ≡ Ok x → element_or_rest (xs ++ ys) i ≡ Ok x
element_in [] ys i x h = cc
element_in (y ∷ xs) ys zero x h = h
element_in (y ∷ xs) ys (suc i) x h = element_in xs ys i x h

-- it goes on after the first
pub element_after : {A : Type 0} (xs ys : List A) (i n : ℕ) → element_or_rest xs i ≡ Err n → element_or_rest (xs ++ ys) i ≡ element_or_rest ys n
element_after [] ys i n h = let e : i ≡ n = cc in ap (element_or_rest ys) e
element_after (y ∷ xs) ys zero n h = cc
element_after (y ∷ xs) ys (suc i) n h = element_after xs ys i n h

-- it does not end at the first element
pub element_rest : {A : Type 0} (x : A) (xs : List A) (i : ℕ) → i ≢ 0 → element_or_rest (x ∷ xs) i ≡ element_or_rest xs (i - 1)
element_rest x xs zero h = absurd (h refl)
element_rest x xs (suc i) h = let e : i ≡ suc i - 1 = omega arith in ap (element_or_rest xs) e

pub element-get : {A : Type 0} (xs : List A) (i : ℕ) → result_ok (element_or_rest xs i) ≡ slice_get xs i
element-get [] i = refl
element-get (x ∷ xs) zero = refl
element-get (x ∷ xs) (suc i) = element-get xs i

pub element-map : {A B : Type 0} (f : A → B) (xs : List A) (i : ℕ) → element_or_rest (map f xs) i ≡ result_map_both f (λ n. n) (element_or_rest xs i)
element-map f [] i = refl
element-map f (x ∷ xs) zero = refl
element-map f (x ∷ xs) (suc i) = element-map f xs i

pub result_ok-map : {T U E D : Type 0} (f : T → U) (g : E → D) (r : Result T E) → option_map f (result_ok r) ≡ result_ok (result_map_both f g r)
result_ok-map f g (Ok x) = refl
result_ok-map f g (Err e) = refl
