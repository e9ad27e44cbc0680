use Rattle.std.proofs.Common.{refl}
use Rattle.cddl_language.specs.Prelude.{prelude}
use Rattle.cddl_language.proofs.examples.choices.Goals as goal

pub returns-clause-literal : goal.returns-clause-literal
unfolding prelude
returns-clause-literal c = λ worth. refl

pub returns-clause-no_literal : goal.returns-clause-no_literal
unfolding prelude
returns-clause-no_literal c = λ worth. refl

pub returns-clause-chosen_types : goal.returns-clause-chosen_types
unfolding prelude
returns-clause-chosen_types c = refl

pub returns-clause-not_once : goal.returns-clause-not_once
unfolding prelude
returns-clause-not_once c = refl

pub returns-clause-endless : goal.returns-clause-endless
unfolding prelude
returns-clause-endless c = refl
