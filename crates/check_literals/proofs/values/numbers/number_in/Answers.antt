use Rattle.check_literals.proofs.OfValues.Uints.{number_answer}
use Rattle.check_literals.proofs.values.numbers.number_in.Goals as goal

pub returns : goal.returns
returns c =
    let h = c.is_signed.ensures.yes c.if-not-is_signed.false in
    number_answer _ _ _ h.0 h.1 h.2 c.number_of.ensures
