use Rattle.std.proofs.Common.{arith}
use Rattle.read_items.proofs.OfWhole.Arguments.{two_wide, four_wide, eight_wide}
use Rattle.read_items.proofs.whole.argument.argument_at.Goals as goal

pub returns-in-25 : goal.returns-in-25
returns-in-25 c = λ _. two_wide c.args.bytes.now c.args.at c.two_bytes.result (omega (arith, c.if-left-gt2.true)) c.in-25.is c.two_bytes.ensures.range c.two_bytes.ensures.digits

pub returns-in-26 : goal.returns-in-26
returns-in-26 c = λ _. four_wide c.args.bytes.now c.args.at c.four_bytes.result (omega (arith, c.if-left-gt4.true)) c.in-26.is c.four_bytes.ensures.range c.four_bytes.ensures.digits

pub returns-in-27 : goal.returns-in-27
returns-in-27 c = λ _. eight_wide c.args.bytes.now c.args.at c.eight_bytes.result (omega (arith, c.if-left-gt8.true)) c.in-27.is (omega arith) c.eight_bytes.ensures
