use Rattle.cddl_language.specs.Controls.{of_bits}
use Rattle.cddl_language.specs.Sizes.{members_of}
use Rattle.cddl_language.proofs.Bits.{bytes_among, number_among, others_miss}
use Rattle.cddl_language.proofs.Sized.{left_says_no, member_says, member_says_no}
use Rattle.cddl_language.proofs.bits_say.Goals as goal

pub returns-clause-yes : goal.returns-clause-yes
returns-clause-yes c worth ds a b rs p x e = member_says worth ds a p x of_bits (members_of of_bits worth ds b) rs e

pub returns-clause-left : goal.returns-clause-left
returns-clause-left c worth ds a b rs p x far e k = left_says_no worth ds a p x of_bits (members_of of_bits worth ds b) rs e far k

pub returns-clause-missed : goal.returns-clause-missed
returns-clause-missed c worth ds a b rs p x e k h = member_says_no worth ds a p x of_bits (members_of of_bits worth ds b) rs e k h

pub returns-clause-bytes : goal.returns-clause-bytes
returns-clause-bytes c rs s = bytes_among rs s

pub returns-clause-number : goal.returns-clause-number
returns-clause-number c rs n = number_among rs n

pub returns-clause-others : goal.returns-clause-others
returns-clause-others c rs x e = others_miss rs x e
