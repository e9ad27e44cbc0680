use Rattle.std.proofs.Common.{refl}
use Rattle.cddl_language.specs.Prelude.{prelude}
use Rattle.cddl_language.proofs.examples.unwrapping.Goals as goal

pub returns-clause-map : goal.returns-clause-map
unfolding prelude
returns-clause-map c = refl

pub returns-clause-tag : goal.returns-clause-tag
unfolding prelude
returns-clause-tag c = refl

pub returns-clause-choice : goal.returns-clause-choice
unfolding prelude
returns-clause-choice c = refl

pub returns-clause-circle : goal.returns-clause-circle
unfolding prelude
returns-clause-circle c = refl

pub returns-clause-generic : goal.returns-clause-generic
unfolding prelude
returns-clause-generic c = refl

pub returns-clause-parameter : goal.returns-clause-parameter
unfolding prelude
returns-clause-parameter c = refl

pub returns-clause-hidden_name : goal.returns-clause-hidden_name
unfolding prelude
returns-clause-hidden_name c = refl
