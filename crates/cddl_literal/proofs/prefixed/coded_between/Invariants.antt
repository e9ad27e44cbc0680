use Rattle.std.proofs.Common.{◌≡◌, ℕ, List, ◌-◌, ◌≤◌, ◌++◌}
use Rattle.cddl_literal.specs.Prefixed.{Coded}
use Rattle.cddl_literal.proofs.prefixed.coded_between.Given as goal

abbrev pub invariant-loop-i : goal.invariant-loop-i
invariant-loop-i l = record {
  in_range : l.i ≤ l.to;
  -- what the whole is, is what has passed with what is left
  left : (d : List ℕ) → Coded l.source l.from l.to d → (e : List ℕ) × Coded l.source l.i l.to e × (d ≡ l.out.items ++ e);
}

abbrev pub decreases-loop-i : goal.decreases-loop-i
decreases-loop-i l = l.to - l.i
