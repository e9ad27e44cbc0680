use Rattle.check_sites.proofs.OfSites.Adding.{on_ok, adds_as}
use Rattle.check_sites.proofs.OfSites.Nodes.{type_rule_sites, group_rule_sites}
use Rattle.check_sites.proofs.sites.walk.add_rule.Goals as goal

pub returns-in-TypeRule : goal.returns-in-TypeRule
returns-in-TypeRule c =
    on_ok c.add_types.result _ _ (adds_as _ (λ i read. type_rule_sites i read _ c.in-TypeRule.name c.in-TypeRule.assign c.in-TypeRule.types _ c.in-TypeRule.is (c.is_type_demanded.ensures i read))) c.add_types.ensures

pub returns-in-GroupRule : goal.returns-in-GroupRule
returns-in-GroupRule c =
    on_ok c.add_grpent.result _ _ (adds_as _ (λ i read. group_rule_sites i read _ c.in-GroupRule.name c.in-GroupRule.assign c.in-GroupRule.grpent c.in-GroupRule.is)) c.add_grpent.ensures
