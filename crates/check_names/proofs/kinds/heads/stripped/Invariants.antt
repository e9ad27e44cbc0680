use Rattle.std.proofs.Common.{◌≡◌}
use Rattle.cddl_language.specs.Terms.{Term, stripped}
use Rattle.check_terms.specs.Trees.{IsTerm}
use Rattle.check_names.proofs.kinds.heads.stripped.Given as goal

abbrev pub invariant-loop-row : goal.invariant-loop-row
invariant-loop-row l = (x : Term) → IsTerm l.terms l.initial.number x → (y : Term) × IsTerm l.terms l.number y × (stripped y ≡ stripped x)

abbrev pub decreases-loop-row : goal.decreases-loop-row
decreases-loop-row l = l.number
