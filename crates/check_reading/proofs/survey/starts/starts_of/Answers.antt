use Rattle.std.proofs.Common.{◌++◌, ap}
use Rattle.cddl_language.specs.Reading.{name_at}
use Rattle.tree_nodes.specs.View.{token_of}
use Rattle.check_reading.proofs.OfSurvey.Starting.{all_found, of_each, one_found}
use Rattle.check_reading.proofs.survey.starts.starts_of.Goals as goal

pub loop-rule-init : goal.loop-rule-init
loop-rule-init c = ap (λ xs. xs ++ of_each name_at (token_of c.args.tree.now) c.deref-rule-items.result.now) c.new-starts.ensures.items

pub loop-rule-preserved : goal.loop-rule-preserved
loop-rule-preserved c = one_found name_at (token_of c.args.tree.now) c.deref-rule-items.result.now c.loop-rule.starts.items _ c.loop-rule.rule-index _ c.rule-item.result c.loop-rule-test.true c.rule-item.is c.start_of.ensures c.in_ok-push.ensures.items c.loop-rule.invariant

pub returns : goal.returns
returns c = all_found name_at c.args.tree.now c.deref-rule-items.result.now c.loop-rule.starts.items c.loop-rule.rule-index c.deref-rule-items.ensures.value c.loop-rule-test.false c.loop-rule.invariant
