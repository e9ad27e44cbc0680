use Rattle.check_text.proofs.Refusing.{accepted, refused}
use Rattle.check_text.proofs.laws.first_is_told.Goals as goal

pub returns-clause-accepted : goal.returns-clause-accepted
returns-clause-accepted c = accepted

pub returns-clause-refused : goal.returns-clause-refused
returns-clause-refused c = refused
