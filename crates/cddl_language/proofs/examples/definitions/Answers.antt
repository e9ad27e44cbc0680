use Rattle.std.proofs.Common.{refl}
use Rattle.cddl_language.specs.Prelude.{prelude}
use Rattle.cddl_language.proofs.examples.definitions.Goals as goal

pub returns-clause-replaced : goal.returns-clause-replaced
unfolding prelude
returns-clause-replaced c = refl

pub returns-clause-extended : goal.returns-clause-extended
unfolding prelude
returns-clause-extended c = refl

pub returns-clause-once : goal.returns-clause-once
unfolding prelude
returns-clause-once c = refl

pub returns-clause-before_equals : goal.returns-clause-before_equals
unfolding prelude
returns-clause-before_equals c = refl

pub returns-clause-socket : goal.returns-clause-socket
unfolding prelude
returns-clause-socket c = refl
