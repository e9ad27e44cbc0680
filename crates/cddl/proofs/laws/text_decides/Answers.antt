use Rattle.cddl.proofs.Deciding.{rule_decided}
use Rattle.cddl.proofs.laws.text_decides.Goals as goal

pub returns-clause-item : goal.returns-clause-item
returns-clause-item c = λ text named rule h x few. let d = rule_decided c.accepted_is_decided.ensures text named rule h x few in (d.answer, d.weight, d.says, d.only)

pub returns-clause-some : goal.returns-clause-some
returns-clause-some c = λ text named rule h steps l stream are. c.some_end_by_text.ensures rule.values rule.definitions rule.name (λ x few. rule_decided c.accepted_is_decided.ensures text named rule h x few) steps l stream are

pub returns-clause-one : goal.returns-clause-one
returns-clause-one c = λ rule steps l stream items others end other are h k. c.one_end_by_text.ensures.one rule.values rule.definitions rule.name steps l stream items others end other are h k
