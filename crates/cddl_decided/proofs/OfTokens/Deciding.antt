-- Where something is shown to be impossible, each statement may be taken to hold or not to.
use Rattle.std.proofs.Common.{◌≡◌, ℕ, zero, suc, ◌≤◌, Bool, true, false, refl, subst, ⊎_elim, arith}
use Rattle.std.proofs.lemmas.Bool.{cases_lt}
use Rattle.cddl_literal.specs.Strings.{IsFurthest}

pub by_cases : (A : Type 0) → (A → ⊥) → ((A → ⊥) → ⊥) → ⊥
by_cases A holds fails = fails holds

pub by_test : (b : Bool) → (b ≡ true → ⊥) → (b ≡ false → ⊥) → ⊥
by_test true holds fails = holds refl
by_test false holds fails = fails refl

lower : (P : ℕ → Type 0) (n i : ℕ) → i ≤ suc n → P i → (P (suc n) → ⊥) → i ≤ n
lower P n i le x none =
    ⊎_elim
    (λ lt. omega arith)
    (λ ge. let e : i ≡ suc n = omega arith in absurd (none (subst P e x)))
    (cases_lt i (suc n))

-- Where something holds at an offset, and at none after a limit, there is a last offset at which it holds.
pub furthest : (P : ℕ → Type 0) (n : ℕ) → ((i : ℕ) → P i → i ≤ n) → (m : ℕ) → P m → ((p : ℕ) → IsFurthest P p → ⊥) → ⊥
furthest P zero most m here next =
    let le = most m here in
    let e : m ≡ zero = omega arith in
    next zero (record { reached = subst P e here; furthest = most })
furthest P (suc n) most m here next =
    by_cases
    (P (suc n))
    (λ top. next (suc n) (record { reached = top; furthest = most }))
    (λ none. furthest P n (λ i x. lower P n i (most i x) x none) m here next)
