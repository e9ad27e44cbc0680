-- Small facts of options, lists and numbers, for the proofs here.
use Rattle.std.specs.Prelude.{◌≡◌, ℕ, zero, suc, ◌<◌, List, [], ◌∷◌, Contains}
use Rattle.std.proofs.Common.{sym, subst, arith}
use Rattle.lists.proofs.Lemmas.{beyond_zero as below_zero}

pub cons_is_nil : {X : Type 0} {x : X} {xs : List X} → x ∷ xs ≡ [] → ⊥
cons_is_nil e = subst (λ l. elim l as (λ p. Type 0) [ [] ↦ ⊥ | y ∷ ys ↦ Unit {0} ]) e tt

pub beyond_one : (k : ℕ) → suc k < 1 → ⊥
beyond_one k h = omega arith

pub beyond_two : (k : ℕ) → suc (suc k) < 2 → ⊥
beyond_two k h = omega arith

pub none_in : {X : Type 0} {x : X} → Contains [] x → ⊥
none_in c = below_zero c.0 c.1

-- the only one
pub only : {X : Type 0} {x y : X} → Contains (x ∷ []) y → y ≡ x
only (zero, h, e) = sym e
only (suc k, h, e) = absurd (beyond_one k h)
