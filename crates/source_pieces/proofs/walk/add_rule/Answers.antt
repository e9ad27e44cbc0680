use Rattle.source_pieces.proofs.Adding.{on_ok, adds_as, adds_both}
use Rattle.source_pieces.proofs.Nodes.{type_rule_pieces, group_rule_pieces}
use Rattle.source_pieces.proofs.walk.add_rule.Goals as goal

pub returns-in_ok-push_member-in-TypeRule : goal.returns-in_ok-push_member-in-TypeRule
returns-in_ok-push_member-in-TypeRule c =
    on_ok c.add_types.result _ _ (λ h. adds_as _ (λ read. type_rule_pieces read _ c.in-TypeRule.name c.in-TypeRule.assign c.in-TypeRule.types c.in-TypeRule.is) (adds_both (adds_both c.in_ok-add_lone-in-TypeRule.ensures c.in_ok-push_member-in-TypeRule.ensures) h)) c.add_types.ensures

pub returns-in_ok-add_body-in-GroupRule : goal.returns-in_ok-add_body-in-GroupRule
returns-in_ok-add_body-in-GroupRule c =
    on_ok c.add_grpent.result _ _ (λ h. adds_as _ (λ read. group_rule_pieces read _ c.in-GroupRule.name c.in-GroupRule.assign c.in-GroupRule.grpent c.in-GroupRule.is) (adds_both c.in_ok-add_body-in-GroupRule.ensures h)) c.add_grpent.ensures
