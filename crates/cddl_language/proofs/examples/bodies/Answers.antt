use Rattle.std.proofs.Common.{refl}
use Rattle.cddl_language.specs.Prelude.{prelude}
use Rattle.cddl_language.proofs.examples.bodies.Goals as goal

pub returns-clause-filled : goal.returns-clause-filled
unfolding prelude
returns-clause-filled c = refl

pub returns-clause-passed_on : goal.returns-clause-passed_on
unfolding prelude
returns-clause-passed_on c = refl

pub returns-clause-behind_unwrapping : goal.returns-clause-behind_unwrapping
unfolding prelude
returns-clause-behind_unwrapping c = refl
