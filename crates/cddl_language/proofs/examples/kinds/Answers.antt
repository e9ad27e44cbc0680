use Rattle.std.proofs.Common.{refl}
use Rattle.cddl_language.specs.Prelude.{prelude}
use Rattle.cddl_language.proofs.examples.kinds.Goals as goal

pub returns-clause-circle : goal.returns-clause-circle
unfolding prelude
returns-clause-circle c = refl

pub returns-clause-by_name : goal.returns-clause-by_name
unfolding prelude
returns-clause-by_name c = refl

pub returns-clause-by_unwrapping : goal.returns-clause-by_unwrapping
unfolding prelude
returns-clause-by_unwrapping c = refl

pub returns-clause-of_tag : goal.returns-clause-of_tag
unfolding prelude
returns-clause-of_tag c = refl

pub returns-clause-of_choice : goal.returns-clause-of_choice
unfolding prelude
returns-clause-of_choice c = refl

pub returns-clause-unknown : goal.returns-clause-unknown
unfolding prelude
returns-clause-unknown c = refl

pub returns-clause-group_socket : goal.returns-clause-group_socket
unfolding prelude
returns-clause-group_socket c = refl

pub returns-clause-type_socket : goal.returns-clause-type_socket
unfolding prelude
returns-clause-type_socket c = refl

pub returns-clause-in_prelude : goal.returns-clause-in_prelude
unfolding prelude
returns-clause-in_prelude c = refl
