use Rattle.std.proofs.Common.{refl}
use Rattle.cddl_literal.specs.Numbers.{digit_value}
use Rattle.cddl_language.proofs.examples.numbers.Goals as goal

pub returns-clause-decimal : goal.returns-clause-decimal
unfolding digit_value
returns-clause-decimal c = refl

pub returns-clause-hexadecimal : goal.returns-clause-hexadecimal
unfolding digit_value
returns-clause-hexadecimal c = refl

pub returns-clause-binary : goal.returns-clause-binary
unfolding digit_value
returns-clause-binary c = refl

pub returns-clause-least : goal.returns-clause-least
unfolding digit_value
returns-clause-least c = refl

pub returns-clause-most : goal.returns-clause-most
unfolding digit_value
returns-clause-most c = refl

pub returns-clause-star : goal.returns-clause-star
unfolding digit_value
returns-clause-star c = refl

pub returns-clause-question : goal.returns-clause-question
unfolding digit_value
returns-clause-question c = refl

pub returns-clause-tag : goal.returns-clause-tag
unfolding digit_value
returns-clause-tag c = refl

pub returns-clause-hash : goal.returns-clause-hash
unfolding digit_value
returns-clause-hash c = refl
