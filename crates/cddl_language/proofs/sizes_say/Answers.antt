use Rattle.cddl_language.specs.Controls.{of_size}
use Rattle.cddl_language.specs.Sizes.{sizes_of}
use Rattle.std.proofs.Common.{length}
use Rattle.cddl_language.proofs.Members.{fitting, members}
use Rattle.cddl_language.proofs.Sized.{left_says_no, member_says, member_says_no}
use Rattle.cddl_language.proofs.sizes_say.Goals as goal

pub returns-clause-yes : goal.returns-clause-yes
returns-clause-yes c worth ds a b rs p x e = member_says worth ds a p x of_size (sizes_of worth ds b) rs e

pub returns-clause-left : goal.returns-clause-left
returns-clause-left c worth ds a b rs p x far e k = left_says_no worth ds a p x of_size (sizes_of worth ds b) rs e far k

pub returns-clause-missed : goal.returns-clause-missed
returns-clause-missed c worth ds a b rs p x e k h = member_says_no worth ds a p x of_size (sizes_of worth ds b) rs e k h

pub returns-clause-bytes : goal.returns-clause-bytes
returns-clause-bytes c rs s = members (length s) rs

pub returns-clause-text : goal.returns-clause-text
returns-clause-text c rs s = members (length s) rs

pub returns-clause-number : goal.returns-clause-number
returns-clause-number c rs n = fitting n rs
