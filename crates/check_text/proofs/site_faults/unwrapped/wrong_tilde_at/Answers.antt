use Rattle.std.proofs.Common.{sym, ◌∙◌}
use Rattle.check_text.proofs.OfSiteFaults.Tildes.{none_there, right_there, wrong_there}
use Rattle.check_text.proofs.site_faults.unwrapped.wrong_tilde_at.Goals as goal

pub returns-then-is_wrong : goal.returns-then-is_wrong
returns-then-is_wrong c t tree r x is place said = wrong_there t tree c.args.survey.now c.args.marks.now.keys is c.args.word r x place said c.in-Unwrapped.demanded c.in-Unwrapped.tilde c.in-Unwrapped.is _ c.unwrapped.ensures (sym c.is_wrong.ensures ∙ c.if-is_wrong.true)

pub returns-else-is_wrong : goal.returns-else-is_wrong
returns-else-is_wrong c t tree r x is place said = right_there t tree c.args.survey.now c.args.marks.now.keys is c.args.word r x place said c.in-Unwrapped.demanded c.in-Unwrapped.tilde c.in-Unwrapped.is _ c.unwrapped.ensures (sym c.is_wrong.ensures ∙ c.if-is_wrong.false)

pub returns-in_default : goal.returns-in_default
returns-in_default c t tree r x is place said = none_there t tree c.args.survey.now c.args.marks.now.keys is c.args.word r x place said c.in_default.not-Unwrapped
