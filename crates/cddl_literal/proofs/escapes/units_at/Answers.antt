use Rattle.std.proofs.Common.{◌≢◌, ◌≤◌, ⊎_elim, ℕ, List, slice_index, ◌≡◌, ◌+◌, refl, arith}
use Rattle.cddl_literal.specs.Escapes.{Escape, IsUnit, pair}
use Rattle.cddl_literal.specs.declared.Quote.{Quote}
use Rattle.cddl_literal.proofs.EscapeFacts.{units_of, alone, joins}
use Rattle.cddl_literal.proofs.escapes.units_at.Goals as goal

no_units : (q : Quote) (s : List ℕ) (i j v : ℕ) → slice_index s (i + 1) ≡ 117 → slice_index s (i + 2) ≢ 123 → ((n : ℕ) → IsUnit s i n → ⊥) → Escape q s i j v → ⊥
no_units q s i j v u brace missing e = elim (units_of e u brace) [ alone w a b ↦ missing v w | joins p ↦ missing p.high p.first ]

pub returns-in_err-first : goal.returns-in_err-first
returns-in_err-first c = rw c.from_residual.ensures (λ j v e. no_units _ _ _ _ _ c.requires.letter c.requires.no_brace c.in_err-first.ensures e)

pub returns : goal.returns
returns c =
    let first = c.in_ok-first.ensures in
    let second = c.in_ok-second.ensures in
    let surrogate : 55296 ≤ c.in_ok-first.first = ⊎_elim (λ a. a.0) (λ b. omega arith) c.in_default.ensures.cases in
    (pair _ _ first.0 (surrogate, omega arith) second.0 (omega arith, omega arith) c.in_ok-scalar.ensures.value.1 refl, omega (arith, second.1))
