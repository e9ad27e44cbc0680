use Rattle.std.proofs.Common.{arith}
use Rattle.check_terms.proofs.OfTexts.Digits.{no_more}
use Rattle.check_terms.proofs.texts.numbers.number.Goals as goal

pub returns-then-number : goal.returns-then-number
returns-then-number c = λ below.
    let most = no_more c.args.base c.loop-digit.number c.loop-digit.digit-index c.args.digits.now c.requires.some c.loop-digit-test.true c.loop-digit.invariant.whole in
    omega (arith, most, c.digit_value.ensures.value, c.from.ensures)
