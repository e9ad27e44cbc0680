use Rattle.check_terms.specs.Table.{no_text, some_text}
use Rattle.check_terms.proofs.terms.Terms.number_text.Goals as goal

pub returns-in_ok-add_text-in-Some-clause-there : goal.returns-in_ok-add_text-in-Some-clause-there
returns-in_ok-add_text-in-Some-clause-there c = rw c.in-Some.is (some_text c.in_ok-add_text-in-Some.ensures.there)

pub returns-in-None-clause-there : goal.returns-in-None-clause-there
returns-in-None-clause-there c = rw c.in-None.is no_text
