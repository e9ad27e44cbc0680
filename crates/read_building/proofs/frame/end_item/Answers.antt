use Rattle.std.proofs.Common.{◌≡◌, ◌+◌, ◌-◌, ◌<◌, length, take, sym, ap, ◌∙◌, arith}
use Rattle.std.proofs.lemmas.Bool.Decides.{nat_tests}
use Rattle.read_building.specs.Building as building
use Rattle.item_nodes.specs.View.{view}
use Rattle.read_building.specs.Stages.{stack_of}
use Rattle.read_building.proofs.Stacks.{stack_top, stack_replaced, stack_pushed}
use Rattle.read_building.proofs.frame.end_item.Goals as goal

pub returns-then-not-is_ending-clause-next : goal.returns-then-not-is_ending-clause-next
returns-then-not-is_ending-clause-next c =
    let fs = c.loop-alloc.frames.items in
    let top = c.len-top.result - 1 in
    let some : 0 < length fs = grind (arith, nat_tests) in
    let len : length fs ≡ top + 1 = omega arith in
    λ held. ap building.item (stack_replaced fs top c.add.new.frame len)
    ∙ (sym (c.in_ok-add.ensures (stack_of (take top fs)))
    ∙ (ap (building.give (view c.loop-alloc.item)) (sym (stack_top fs top c.index_mut.result.now len c.index_mut.ensures.value)) ∙ c.loop-alloc.invariant))

pub loop-alloc-preserved : goal.loop-alloc-preserved
loop-alloc-preserved c =
    let rest = c.pop.new.self.items in
    sym (c.in_ok-item.ensures (stack_of rest))
    ∙ (ap (building.give (view c.loop-alloc.item)) (sym (ap stack_of c.in-Some.ensures.items ∙ stack_pushed rest c.in-Some.frame)) ∙ c.loop-alloc.invariant)
