use Rattle.std.proofs.Common.{arith}
use Rattle.cddl_literal.proofs.NumberFacts.{large}
use Rattle.cddl_literal.proofs.digits.number.Goals as goal

pub returns-then-number : goal.returns-then-number
returns-then-number c = λ le.
    let most = large c.args.base c.loop-b.number c.loop-b.b-index c.args.digits.now c.requires.some c.loop-b-test.true c.loop-b.invariant.whole in
    omega (arith, most, c.digit_value.ensures.value, c.from.ensures)
