use Rattle.std.proofs.Common.{length, ◌-◌, ◌+◌, ◌<◌, ◌≤◌}
use Rattle.cddl_literal.specs.Bytes.{is_in_comment}
use Rattle.cddl_literal.specs.Bytes.{Each}
use Rattle.cddl_token.proofs.gaps.comment_end.Given as goal

abbrev pub invariant-loop-i : goal.invariant-loop-i
invariant-loop-i l = record { from : l.at < l.i; in_source : l.i ≤ length l.source; holds : Each is_in_comment l.source (l.at + 1) l.i }

abbrev pub decreases-loop-i : goal.decreases-loop-i
decreases-loop-i l = length l.source - l.i
