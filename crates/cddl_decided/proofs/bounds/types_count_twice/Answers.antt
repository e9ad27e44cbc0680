use Rattle.std.proofs.Common.{refl}
use Rattle.cddl_literal.specs.Numbers.{digit_value}
use Rattle.cddl_language.specs.Prelude.{prelude}
use Rattle.cddl_decided.proofs.bounds.types_count_twice.Goals as goal

pub returns-clause-three : goal.returns-clause-three
unfolding digit_value prelude
returns-clause-three c = refl

pub returns-clause-four : goal.returns-clause-four
unfolding digit_value prelude
returns-clause-four c = refl
