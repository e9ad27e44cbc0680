use Rattle.std.proofs.Common.{ℕ, List, length, ◌-◌, ◌≤◌, ◌⊎◌}
use Rattle.cddl_literal.specs.Prefixed.{Coded, HoldsCoded}
use Rattle.cddl_literal.proofs.prefixed.coded_end.Given as goal

abbrev pub invariant-loop-i : goal.invariant-loop-i
invariant-loop-i l = record {
  in_source : l.i ≤ length l.source;
  -- what is from here on completes what has passed
  passed : (q : ℕ) (d : List ℕ) → Coded l.source l.i q d → (e : List ℕ) × Coded l.source l.at q e;
  -- what reaches past this offset is from here on
  left : (q : ℕ) → HoldsCoded l.source l.at q → (q ≤ l.i) ⊎ HoldsCoded l.source l.i q;
}

abbrev pub decreases-loop-i : goal.decreases-loop-i
decreases-loop-i l = length l.source - l.i
