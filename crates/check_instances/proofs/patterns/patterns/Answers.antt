use Rattle.std.proofs.Common.{◌≤◌, ◌+◌, sym, subst, drop, drop_of_length-le, length, arith}
use Rattle.check_instances.proofs.Meaning.{AreMade, all_made, next_made, none_made}
use Rattle.check_instances.proofs.patterns.patterns.Goals as goal

pub loop-definition-init : goal.loop-definition-init
loop-definition-init c = λ xs h. subst (AreMade c.args.terms.now xs c.args.definitions.now) (sym c.new-patterns.ensures.items) (none_made c.args.terms.now xs c.args.definitions.now h)

pub loop-definition-preserved : goal.loop-definition-preserved
loop-definition-preserved c = λ xs h.
    let i = c.loop-definition.definition-index in
    subst (AreMade c.args.terms.now xs (drop (i + 1) c.args.definitions.now)) (sym c.in_ok-push.ensures) (next_made c.args.terms.now xs c.args.definitions.now i c.definition-item.result c.loop-definition.patterns.items c.in_ok-pattern.pattern c.loop-definition-test.true c.definition-item.is c.in_ok-pattern.ensures (c.loop-definition.invariant xs h))

pub returns : goal.returns
returns c = λ xs h.
    let i = c.loop-definition.definition-index in
    let short : length c.args.definitions.now ≤ i = omega (arith, c.loop-definition-test.false) in
    all_made c.args.terms.now xs (drop i c.args.definitions.now) c.loop-definition.patterns.items (drop_of_length-le c.args.definitions.now short) (c.loop-definition.invariant xs h)
