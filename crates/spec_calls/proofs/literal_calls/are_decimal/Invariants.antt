use Rattle.std.proofs.Common.{length, ◌-◌}
use Rattle.cddl_literal.specs.Bytes.{is_decimal_digit}
use Rattle.cddl_literal.specs.Bytes.{Each}
use Rattle.spec_calls.proofs.literal_calls.are_decimal.Given as goal

abbrev pub invariant-loop-i : goal.invariant-loop-i
invariant-loop-i l = Each is_decimal_digit l.source l.from l.i

abbrev pub decreases-loop-i : goal.decreases-loop-i
decreases-loop-i l = length l.source - l.i
