use Rattle.std.proofs.Common.{length, ◌-◌, ◌≤◌}
use Rattle.cddl_literal.specs.Bytes.{Each}
use Rattle.cddl_token.specs.Shapes.{is_digit_in}
use Rattle.cddl_token.proofs.numbers.digits_end.Given as goal

abbrev pub invariant-loop-i : goal.invariant-loop-i
invariant-loop-i l = record { from : l.at ≤ l.i; in_source : l.i ≤ length l.source; each : Each (is_digit_in l.radix) l.source l.at l.i }

abbrev pub decreases-loop-i : goal.decreases-loop-i
decreases-loop-i l = length l.source - l.i
