use Rattle.std.proofs.Common.{arith}
use Rattle.cddl_literal.proofs.NumberFacts.{number_of_unit}
use Rattle.cddl_literal.proofs.escapes.unit_at.Goals as goal

pub returns : goal.returns
returns c = (
  record {
    backslash = omega arith;
    letter = omega arith;
    digits = λ k low high. c.hex_end.ensures.each k low (omega arith);
    number = omega (arith, number_of_unit c.args.source.now c.args.at (omega arith), c.digit_value.ensures.value, c.digit_value-2.ensures.value, c.digit_value-3.ensures.value, c.digit_value-4.ensures.value);
  },
  omega arith,
  omega arith,
)
