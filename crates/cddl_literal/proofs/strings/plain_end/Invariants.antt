use Rattle.std.proofs.Common.{length, ◌-◌, ◌≤◌}
use Rattle.cddl_literal.specs.Bytes.{Each}
use Rattle.cddl_literal.specs.Strings.{is_plain}
use Rattle.cddl_literal.proofs.strings.plain_end.Given as goal

abbrev pub invariant-loop-i : goal.invariant-loop-i
invariant-loop-i l = record {
  from : l.at ≤ l.i;
  in_source : l.i ≤ length l.source;
  each : Each (is_plain l.quote) l.source l.at l.i;
}

abbrev pub decreases-loop-i : goal.decreases-loop-i
decreases-loop-i l = length l.source - l.i
