use Rattle.tree_nodes.specs.View.{token_of}
use Rattle.check_reading.proofs.OfSurvey.Starting.{all_begun, first_begun, next_begun}
use Rattle.check_reading.proofs.survey.parameters.of_list.Goals as goal

pub loop-parameter-init : goal.loop-parameter-init
loop-parameter-init c = first_begun (token_of c.args.tree.now) c.args.parameters.now c.new-starts.result.items _ _ c.deref-parameter-items.result.now c.new-starts.ensures.items c.in_ok-push.ensures.items c.start_at.ensures c.deref-parameter-items.ensures.value

pub loop-parameter-preserved : goal.loop-parameter-preserved
loop-parameter-preserved c = next_begun (token_of c.args.tree.now) c.deref-parameter-items.result.now c.loop-parameter.starts.items _ _ c.loop-parameter.parameter-index _ _ c.loop-parameter-test.true c.start_at-in-loop-parameter.ensures c.in_ok-push-2.ensures.items c.loop-parameter.invariant

pub returns : goal.returns
returns c = all_begun (token_of c.args.tree.now) c.deref-parameter-items.result.now c.loop-parameter.starts.items _ c.loop-parameter.parameter-index c.loop-parameter-test.false c.loop-parameter.invariant
