use Rattle.std.proofs.Common.{List, map, sym, ap, subst, ◌∙◌}
use Rattle.tree_nodes.specs.View.{token_of, view, view_rule}
use Rattle.cddl_language.specs.Reading.{rules_of}
use Rattle.source_pieces.specs.declared.rules.RuleAt.{RuleAt}
use Rattle.source_pieces.proofs.Growing.{grown}
use Rattle.source_pieces.proofs.Reading.{AreSoFar, all_so_far, item_there, none_so_far, one_more_so_far}
use Rattle.source_pieces.proofs.Firsts.{rules_view}
use Rattle.source_pieces.proofs.rules.rules_at.Goals as goal

pub loop-rule-init : goal.loop-rule-init
loop-rule-init c = record {
  grows = record { texts = λ n x e. e; rows = λ n r e. e };
  are = subst (λ (xs : List RuleAt). AreSoFar c.args.terms.now (token_of c.args.tree.now) c.deref-rule-items.result.now xs 0) (sym c.new-rules.ensures.items) (none_so_far c.args.terms.now (token_of c.args.tree.now) c.deref-rule-items.result.now);
}

pub returns-in_err-at-clause-grows : goal.returns-in_err-at-clause-grows
returns-in_err-at-clause-grows c = grown _ _ _ c.loop-rule.invariant.grows c.in_err-at.ensures.grows

pub returns-in_err-push_rule-clause-grows : goal.returns-in_err-push_rule-clause-grows
returns-in_err-push_rule-clause-grows c = grown _ _ _ c.loop-rule.invariant.grows c.in_ok-at.ensures.grows

pub loop-rule-preserved : goal.loop-rule-preserved
loop-rule-preserved c = record {
  grows = grown _ _ _ c.loop-rule.invariant.grows c.in_ok-at.ensures.grows;
  are = one_more_so_far _ _ (token_of c.args.tree.now) _ _ _ _ _ c.rule-item.result c.loop-rule.invariant.are c.in_ok-at.ensures.grows (item_there c.deref-rule-items.result.now c.loop-rule.rule-index c.rule-item.result c.loop-rule-test.true c.rule-item.is) c.in_ok-at.ensures.rule c.in_ok-push_rule.ensures;
}

pub returns-clause-rules : goal.returns-clause-rules
returns-clause-rules c = all_so_far c.loop-rule.terms (token_of c.args.tree.now) c.deref-rule-items.result.now c.loop-rule.rules.items c.loop-rule.rule-index (rules_of (view c.args.tree.now)) c.loop-rule-test.false c.loop-rule.invariant.are (rules_view c.args.tree.now ∙ ap (map (view_rule (token_of c.args.tree.now))) (sym c.deref-rule-items.ensures.value))
