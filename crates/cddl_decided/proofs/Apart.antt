-- Lists that have no element twice.
use Rattle.std.proofs.Common.{◌≢◌, ℕ, zero, suc, ◌<◌, inl, inr, List, [], ◌∷◌, length, get_or, refl, sym, subst, arith}
use Rattle.std.specs.Prelude.{AllPairs}
use Rattle.lists.proofs.Lemmas.{IsIn}

-- no element twice
abbrev pub AreApart : {A : Type 0} → List A → Type 0
AreApart [] = Unit {0}
AreApart (x ∷ xs) = (IsIn x xs → ⊥) × AreApart xs

read_in : {A : Type 0} (xs : List A) (k : ℕ) (d : A) → k < length xs → IsIn (get_or xs k d) xs
read_in [] k d l = absurd (omega (arith, l))
read_in (x ∷ xs) zero d l = inl refl
read_in (x ∷ xs) (suc k) d l = inr (read_in xs k d (omega (arith, l)))

pub pairs : {A : Type 0} (xs : List A) → AreApart xs → AllPairs (λ (q r : A). q ≢ r) xs
pairs [] h i j d l m = absurd (omega (arith, m))
pairs (x ∷ xs) h zero zero d l m = absurd (omega (arith, l))
pairs (x ∷ xs) h zero (suc j) d l m = λ e. h.0 (subst (λ z. IsIn z xs) (sym e) (read_in xs j d (omega (arith, m))))
pairs (x ∷ xs) h (suc i) zero d l m = absurd (omega (arith, l))
pairs (x ∷ xs) h (suc i) (suc j) d l m = pairs xs h.1 i j d (omega (arith, l)) (omega (arith, m))
