use Rattle.std.proofs.Math.ListN.{drop_of_length-le}
use Rattle.check_names.proofs.OfKinds.Heading.{all_heads, next_drop, next_head}
use Rattle.check_names.proofs.kinds.heads.heads.Goals as goal

pub loop-definition-preserved : goal.loop-definition-preserved
loop-definition-preserved c = next_head c.args.terms.now c.args.definitions.now _ _ c.definition-item.result _ _ c.head_of.result (next_drop c.args.definitions.now c.loop-definition.definition-index c.definition-item.result c.loop-definition-test.true c.definition-item.is) c.head_of.ensures c.in_ok-push.ensures.items c.loop-definition.invariant

pub returns : goal.returns
returns c = all_heads c.args.terms.now c.args.definitions.now _ c.loop-definition.heads.items (drop_of_length-le c.args.definitions.now c.loop-definition-test.false) c.loop-definition.invariant
