use Rattle.check_sites.proofs.OfEntries.Adding.{adds_as, on_ok}
use Rattle.check_sites.proofs.OfEntries.Nodes.{group_rule_inside, type_rule_inside}
use Rattle.check_sites.proofs.entries.walk.add_body.Goals as goal

pub returns-in-TypeRule : goal.returns-in-TypeRule
returns-in-TypeRule c = on_ok c.push_type.result _ _ (adds_as _ (λ read. type_rule_inside read _ _ _ c.in-TypeRule.types c.in-TypeRule.is)) c.push_type.ensures

pub returns-in-GroupRule : goal.returns-in-GroupRule
returns-in-GroupRule c = on_ok c.add_group_body.result _ _ (adds_as _ (λ read. group_rule_inside read _ _ _ c.in-GroupRule.grpent c.in-GroupRule.is)) c.add_group_body.ensures
