use Rattle.std.proofs.Common.{ap₂}
use Rattle.cddl_literal.specs.declared.operators.Joining.TheVariants.{AsTheyAre, Dedented}
use Rattle.cddl_language.specs.Controls.{join, sum}
use Rattle.cddl_language.specs.Literals.{computed_literal}
use Rattle.cddl_language.proofs.Sized.{literal_is, literal_says, literal_says_no}
use Rattle.cddl_language.proofs.computed_literals_say.Goals as goal

pub returns-clause-literal : goal.returns-clause-literal
returns-clause-literal c worth ds a b n d e = literal_is worth ds a b n d e

pub returns-clause-sums : goal.returns-clause-sums
returns-clause-sums c worth ds a b u v e f = ap₂ (computed_literal sum) e f

pub returns-clause-joins : goal.returns-clause-joins
returns-clause-joins c worth ds a b u v e f = ap₂ (computed_literal (join AsTheyAre)) e f

pub returns-clause-dedents : goal.returns-clause-dedents
returns-clause-dedents c worth ds a b u v e f = ap₂ (computed_literal (join Dedented)) e f

pub returns-clause-yes : goal.returns-clause-yes
returns-clause-yes c worth ds a b n d m p x e is = literal_says worth ds a b n d e m p x is

pub returns-clause-missed : goal.returns-clause-missed
returns-clause-missed c worth ds a b n d m p x e is f = literal_says_no worth ds a b n d e m p x is f
