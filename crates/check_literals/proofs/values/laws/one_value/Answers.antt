use Rattle.check_literals.proofs.OfValues.Answering.{one_value, one_answer}
use Rattle.check_literals.proofs.values.laws.one_value.Goals as goal

pub returns-clause-value : goal.returns-clause-value
returns-clause-value c = one_value c.one_meaning.ensures.number c.one_meaning.ensures.text c.one_meaning.ensures.byte_string

pub returns-clause-answer : goal.returns-clause-answer
returns-clause-answer c = one_answer c.one_meaning.ensures.number c.one_meaning.ensures.text c.one_meaning.ensures.byte_string
