use Rattle.std.proofs.Common.{◌≡◌, true, sym, ◌∙◌}
use Rattle.check_reading.specs.Survey.Survey.{defined_in}
use Rattle.check_text.specs.SiteFaults.Words.{IsWrongWord, count_wanted, is_other_than}
use Rattle.check_text.specs.declared.site_faults.code.SiteCode.TheVariants.{Arity}
use Rattle.check_text.proofs.OfSiteFaults.Wrong.{other_role, right_count, told_not, wrong_count}
use Rattle.check_text.proofs.site_faults.arity.wrong_arity_at.Goals as goal

pub returns-then-not-is_name : goal.returns-then-not-is_name
returns-then-not-is_name c t tree r x is place said = told_not t c.args.word x said (IsWrongWord Arity (defined_in tree) r x) (other_role t c.args.word x said (is_other_than (count_wanted (defined_in tree) r x.text) x.arguments ≡ true) (sym c.is_name.ensures ∙ c.if-not-is_name.true))

pub returns-then-is_other_than : goal.returns-then-is_other_than
returns-then-is_other_than c t tree r x is place said = wrong_count t tree c.args.survey.now c.args.marks.now.keys is c.args.word r x place said c.is_other_than.result c.count_wanted.result c.count_wanted.ensures c.is_other_than.ensures c.if-is_other_than.true (sym c.is_name.ensures ∙ c.if-not-is_name.false)

pub returns-else-is_other_than : goal.returns-else-is_other_than
returns-else-is_other_than c t tree r x is place said = right_count t tree c.args.survey.now c.args.marks.now.keys is c.args.word r x place said c.is_other_than.result c.count_wanted.result c.count_wanted.ensures c.is_other_than.ensures c.if-is_other_than.false
