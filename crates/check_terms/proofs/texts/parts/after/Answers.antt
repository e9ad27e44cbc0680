use Rattle.std.proofs.Common.{◌+◌, ◌∙◌}
use Rattle.check_terms.proofs.OfTexts.Places.{behind_it, none_behind, to_end}
use Rattle.check_terms.proofs.texts.parts.after.Goals as goal

pub returns-in-Some : goal.returns-in-Some
returns-in-Some c = to_end (c.in-Some.at + 1) c.args.text.now ∙ behind_it c.args.sign c.args.text.now c.in-Some.at c.in-Some.ensures

pub returns-in-None : goal.returns-in-None
returns-in-None c = none_behind c.args.sign c.args.text.now c.in-None.ensures
