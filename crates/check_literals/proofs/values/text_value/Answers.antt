use Rattle.check_literals.proofs.OfValues.Answering.{text_some, text_none}
use Rattle.check_literals.proofs.values.text_value.Goals as goal

pub returns-in-Some : goal.returns-in-Some
returns-in-Some c = text_some c.args.text.now _ (rw c.in-Some.is at c.in_ok-value.ensures)

pub returns-in-None : goal.returns-in-None
returns-in-None c = text_none c.args.text.now (rw c.in-None.is at c.in_ok-value.ensures)
