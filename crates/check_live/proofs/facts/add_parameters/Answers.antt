use Rattle.std.proofs.Common.{◌≤◌, length, subst}
use Rattle.check_live.proofs.Lists.{get_there}
use Rattle.check_live.proofs.Parameters.{next_parameter, next_rule}
use Rattle.check_live.proofs.facts.add_parameters.Goals as goal

pub loop-place-preserved : goal.loop-place-preserved
loop-place-preserved c ds there h = next_parameter ds c.args.rule c.loop-place.place _ c.args.definition.now _ _ _ _ there (get_there c.args.definition.now.parameters.items c.deref-parameter-items.result.now c.loop-place.place 0 c.deref-parameter-items.ensures.value c.loop-place-test.true) c.in_ok-add_parameter.ensures (c.loop-place.invariant ds there h)

pub returns : goal.returns
returns c ds there h = next_rule ds c.args.rule c.loop-place.place c.args.definition.now _ _ there (subst (λ xs. length xs ≤ c.loop-place.place) c.deref-parameter-items.ensures.value c.loop-place-test.false) (c.loop-place.invariant ds there h)
