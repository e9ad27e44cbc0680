use Rattle.std.proofs.Common.{refl}
use Rattle.cddl_meaning.specs.Forms.{bits_set}
use Rattle.cddl_meaning.proofs.example_bits.Goals as goal

pub returns-clause-string : goal.returns-clause-string
unfolding bits_set
returns-clause-string c = refl

pub returns-clause-number : goal.returns-clause-number
unfolding bits_set
returns-clause-number c = refl

pub returns-clause-last : goal.returns-clause-last
unfolding bits_set
returns-clause-last c = refl

pub returns-clause-negative : goal.returns-clause-negative
unfolding bits_set
returns-clause-negative c = refl

pub returns-clause-weight : goal.returns-clause-weight
unfolding bits_set
returns-clause-weight c = refl
