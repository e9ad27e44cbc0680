use Rattle.std.proofs.Common.{refl}
use Rattle.cddl_literal.specs.Numbers.{digit_value}
use Rattle.cddl_language.specs.Prelude.{prelude}
use Rattle.cddl_language.proofs.examples.maps.Goals as goal

pub returns-clause-row : goal.returns-clause-row
unfolding prelude digit_value
returns-clause-row c = refl

pub returns-clause-optional : goal.returns-clause-optional
unfolding prelude digit_value
returns-clause-optional c = refl

pub returns-clause-any : goal.returns-clause-any
unfolding prelude digit_value
returns-clause-any c = refl

pub returns-clause-some : goal.returns-clause-some
unfolding prelude digit_value
returns-clause-some c = refl

pub returns-clause-named : goal.returns-clause-named
unfolding prelude digit_value
returns-clause-named c = refl

pub returns-clause-socket : goal.returns-clause-socket
unfolding prelude digit_value
returns-clause-socket c = refl

pub returns-clause-any_of_socket : goal.returns-clause-any_of_socket
unfolding prelude digit_value
returns-clause-any_of_socket c = refl

pub returns-clause-any_of_pairs : goal.returns-clause-any_of_pairs
unfolding prelude digit_value
returns-clause-any_of_pairs c = refl

pub returns-clause-some_of_pairs : goal.returns-clause-some_of_pairs
unfolding prelude digit_value
returns-clause-some_of_pairs c = refl

pub returns-clause-some_of_optional : goal.returns-clause-some_of_optional
unfolding prelude digit_value
returns-clause-some_of_optional c = refl

pub returns-clause-of_itself : goal.returns-clause-of_itself
unfolding prelude digit_value
returns-clause-of_itself c = refl

pub returns-clause-without_key : goal.returns-clause-without_key
unfolding prelude digit_value
returns-clause-without_key c = refl

pub returns-clause-slowest : goal.returns-clause-slowest
unfolding prelude digit_value
returns-clause-slowest c = refl
