use Rattle.std.proofs.Common.{length, ◌-◌, ◌≤◌}
use Rattle.cddl_literal.specs.Bytes.{Each}
use Rattle.check_literals.specs.Values.Digits.{is_digit_in}
use Rattle.check_literals.proofs.values.numbers.are_digits.Given as goal

abbrev pub invariant-loop-i : goal.invariant-loop-i
invariant-loop-i l = record {
  from : l.from ≤ l.i;
  each : Each (is_digit_in l.base) l.source l.from l.i;
}

abbrev pub decreases-loop-i : goal.decreases-loop-i
decreases-loop-i l = length l.source - l.i
