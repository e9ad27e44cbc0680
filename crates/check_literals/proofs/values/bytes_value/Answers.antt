use Rattle.check_literals.proofs.OfValues.Answering.{bytes_some, bytes_none}
use Rattle.check_literals.proofs.values.bytes_value.Goals as goal

pub returns-in-Some : goal.returns-in-Some
returns-in-Some c = bytes_some c.args.text.now _ (rw c.in-Some.is at c.in_ok-value.ensures)

pub returns-in-None : goal.returns-in-None
returns-in-None c = bytes_none c.args.text.now (rw c.in-None.is at c.in_ok-value.ensures)
