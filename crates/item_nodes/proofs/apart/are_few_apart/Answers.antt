use Rattle.std.proofs.Common.{◌≡◌, ◌+◌, false, subst}
use Rattle.std.proofs.lemmas.List.{take_rest}
use Rattle.std.specs.List.{AllByRecursion}
use Rattle.item_nodes.specs.Apart.{keys_view, may_be_same}
use Rattle.item_nodes.specs.View.{view}
use Rattle.item_nodes.proofs.Differing.{few_apart, few_more, few_end}
use Rattle.item_nodes.proofs.apart.are_few_apart.Goals as goal

pub loop-i-preserved : goal.loop-i-preserved
loop-i-preserved c d =
    let ps = c.args.pairs.now in
    let p = c.index-pairs-i.result in
    c.loop-i.invariant
    (few_more ps c.loop-i.i p c.loop-i-test.true c.index-pairs-i.is
    (subst (λ qs. AllByRecursion (λ k. may_be_same (view p.0) k ≡ false) (keys_view qs)) (take_rest ps (c.loop-i.i + 1)) (c.is_not_among.ensures c.if-not-is_not_among.false)) d)

pub returns : goal.returns
returns c t = few_apart c.args.pairs.now (c.loop-i.invariant (few_end c.args.pairs.now c.loop-i.i c.loop-i-test.false))
