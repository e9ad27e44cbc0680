use Rattle.std.proofs.Common.{length, ◌-◌, ◌+◌, ◌<◌, ◌≤◌}
use Rattle.cddl_literal.specs.Bytes.{Each}
use Rattle.cddl_literal.specs.Prefixed.{is_in_inner_comment}
use Rattle.cddl_literal.proofs.prefixed.comment_stop.Given as goal

abbrev pub invariant-loop-i : goal.invariant-loop-i
invariant-loop-i l = record {
  from : l.at < l.i;
  in_source : l.i ≤ length l.source;
  each : Each is_in_inner_comment l.source (l.at + 1) l.i;
}

abbrev pub decreases-loop-i : goal.decreases-loop-i
decreases-loop-i l = length l.source - l.i
