use Rattle.std.proofs.Common.{◌++◌, ap}
use Rattle.check_names.specs.Environment.Places.{lists}
use Rattle.check_reading.specs.Survey.Survey.{parameters_at}
use Rattle.tree_nodes.specs.View.{token_of}
use Rattle.check_reading.proofs.OfSurvey.Starting.{all_found, of_each, one_found, one_list}
use Rattle.check_reading.proofs.survey.parameters.all_parameters.Goals as goal

pub loop-rule-init : goal.loop-rule-init
loop-rule-init c = ap (λ vs. lists vs ++ of_each parameters_at (token_of c.args.tree.now) c.deref-rule-items.result.now) c.new-starts.ensures.items

pub loop-rule-preserved : goal.loop-rule-preserved
loop-rule-preserved c = one_found parameters_at (token_of c.args.tree.now) c.deref-rule-items.result.now (lists c.loop-rule.starts.items) _ c.loop-rule.rule-index _ c.rule-item.result c.loop-rule-test.true c.rule-item.is c.in_ok-of_rule.ensures (one_list c.loop-rule.starts.items _ _ c.in_ok-push.ensures.items) c.loop-rule.invariant

pub returns : goal.returns
returns c = all_found parameters_at c.args.tree.now c.deref-rule-items.result.now (lists c.loop-rule.starts.items) c.loop-rule.rule-index c.deref-rule-items.ensures.value c.loop-rule-test.false c.loop-rule.invariant
