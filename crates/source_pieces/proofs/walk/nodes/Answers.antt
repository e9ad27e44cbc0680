use Rattle.std.proofs.Common.{List, map, sym, ap, subst, ◌∙◌}
use Rattle.tree_nodes.specs.View.{token_of, view_rule}
use Rattle.source_pieces.specs.declared.node.Found.{Found}
use Rattle.source_pieces.specs.Pieces.{rule_by_rule}
use Rattle.source_pieces.proofs.Firsts.{HasFirst, has_none, has_next, has_all, rules_view}
use Rattle.source_pieces.proofs.walk.nodes.Goals as goal

pub loop-rule-init : goal.loop-rule-init
loop-rule-init c =
    let rules = c.deref-node-items.result.now in
    subst (λ (fs : List Found). HasFirst rules fs 0) (sym c.new-found.ensures.items) (has_none rules)

pub loop-rule-preserved : goal.loop-rule-preserved
loop-rule-preserved c =
    has_next c.deref-node-items.result.now _ _ c.loop-rule.rule c.node-item.result c.loop-rule-test.true c.node-item.is c.in_ok-add_rule.ensures c.loop-rule.invariant

pub returns : goal.returns
returns c =
    let rules = c.deref-node-items.result.now in
    let read = token_of c.args.tree.now in
    let same = ap (map (view_rule read)) c.deref-node-items.ensures.value ∙ sym (rules_view c.args.tree.now) in
    has_all rules c.loop-rule.found.items c.loop-rule.rule c.loop-rule-test.false c.loop-rule.invariant read ∙ ap (rule_by_rule 0) same
