use Rattle.check_text.proofs.OfSiteFaults.Wrong.{right_kind_there, wrong_kind_there}
use Rattle.check_text.proofs.site_faults.kinds.group_as_type_at.Goals as goal

pub returns-then-is_wrong_kind : goal.returns-then-is_wrong_kind
returns-then-is_wrong_kind c t tree r x is place said = wrong_kind_there t tree c.args.survey.now c.args.marks.now.keys is c.args.word r x place said c.is_wrong_kind.result c.is_group.result c.is_group.ensures c.is_wrong_kind.ensures c.if-is_wrong_kind.true

pub returns-else-is_wrong_kind : goal.returns-else-is_wrong_kind
returns-else-is_wrong_kind c t tree r x is place said = right_kind_there t tree c.args.survey.now c.args.marks.now.keys is c.args.word r x place said c.is_wrong_kind.result c.is_group.result c.is_group.ensures c.is_wrong_kind.ensures c.if-is_wrong_kind.false
