use Rattle.std.proofs.Common.{refl}
use Rattle.cddl_literal.specs.Numbers.{digit_value}
use Rattle.cddl_language.specs.Prelude.{prelude}
use Rattle.cddl_language.proofs.examples.bits.Goals as goal

pub returns-clause-choice : goal.returns-clause-choice
unfolding digit_value
returns-clause-choice c = refl

pub returns-clause-range : goal.returns-clause-range
unfolding digit_value
returns-clause-range c = refl

pub returns-clause-names : goal.returns-clause-names
unfolding digit_value prelude
returns-clause-names c = refl

pub returns-clause-optional : goal.returns-clause-optional
unfolding digit_value
returns-clause-optional c = refl

pub returns-clause-size : goal.returns-clause-size
returns-clause-size c = refl
