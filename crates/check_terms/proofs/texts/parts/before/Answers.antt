use Rattle.check_terms.proofs.OfTexts.Places.{before_it, all_before}
use Rattle.check_terms.proofs.texts.parts.before.Goals as goal

pub returns-in-Some : goal.returns-in-Some
returns-in-Some c = before_it c.args.sign c.args.text.now c.in-Some.at c.in-Some.ensures

pub returns-in-None : goal.returns-in-None
returns-in-None c = all_before c.args.sign c.args.text.now c.in-None.ensures
