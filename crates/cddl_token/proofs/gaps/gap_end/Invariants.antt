use Rattle.std.proofs.Common.{length, ℕ, ◌-◌, ◌≤◌}
use Rattle.cddl_token.specs.Tokens.{GapFrom}
use Rattle.cddl_token.proofs.gaps.gap_end.Given as goal

abbrev pub invariant-loop-i : goal.invariant-loop-i
invariant-loop-i l = record { from : l.at ≤ l.i; in_source : l.i ≤ length l.source; passed : (k : ℕ) → GapFrom l.source l.i k → GapFrom l.source l.at k }

abbrev pub decreases-loop-i : goal.decreases-loop-i
decreases-loop-i l = length l.source - l.i
