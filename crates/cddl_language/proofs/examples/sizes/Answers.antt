use Rattle.std.proofs.Common.{refl}
use Rattle.cddl_literal.specs.Numbers.{digit_value}
use Rattle.cddl_language.specs.Examples as E
use Rattle.cddl_language.specs.Prelude.{prelude}
use Rattle.cddl_language.specs.Reach.{most_instances}
use Rattle.cddl_language.proofs.Circles.{circle_has_no_sizes}
use Rattle.cddl_language.proofs.examples.sizes.Goals as goal

pub returns-clause-choice : goal.returns-clause-choice
unfolding digit_value
returns-clause-choice c = refl

pub returns-clause-open : goal.returns-clause-open
unfolding digit_value
returns-clause-open c = refl

pub returns-clause-empty : goal.returns-clause-empty
unfolding digit_value
returns-clause-empty c = refl

pub returns-clause-name : goal.returns-clause-name
unfolding digit_value prelude
returns-clause-name c = refl

pub returns-clause-text : goal.returns-clause-text
returns-clause-text c = refl

pub returns-clause-circle : goal.returns-clause-circle
returns-clause-circle c = (circle_has_no_sizes E.worth most_instances).0
