use Rattle.cddl_language.proofs.Controlled.{both_say, left_says_no, right_says_no, item_says, sequence_says, alone_says}
use Rattle.cddl_language.proofs.controls_of_types_say.Goals as goal

pub returns-clause-both : goal.returns-clause-both
returns-clause-both c = both_say

pub returns-clause-left : goal.returns-clause-left
returns-clause-left c = left_says_no

pub returns-clause-right : goal.returns-clause-right
returns-clause-right c = right_says_no

pub returns-clause-within : goal.returns-clause-within
returns-clause-within c = λ worth ds a b p x o. (λ h. h, λ h. h)

pub returns-clause-item : goal.returns-clause-item
returns-clause-item c = item_says

pub returns-clause-sequence : goal.returns-clause-sequence
returns-clause-sequence c = sequence_says

pub returns-clause-default : goal.returns-clause-default
returns-clause-default c = alone_says
