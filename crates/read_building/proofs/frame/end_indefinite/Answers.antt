use Rattle.std.proofs.Common.{◌≡◌, ◌+◌, ◌-◌, ◌<◌, length, take, Some, refl, sym, ap, ◌∙◌, arith}
use Rattle.std.proofs.lemmas.Bool.Decides.{nat_tests}
use Rattle.read_building.specs.Building as building
use Rattle.read_building.specs.Stages.{stack_of}
use Rattle.read_building.proofs.Stacks.{stack_top, stack_pushed}
use Rattle.read_building.proofs.Containers.{no_break}
use Rattle.read_building.proofs.frame.end_indefinite.Goals as goal

pub returns-then-not-is_breaking-clause-next : goal.returns-then-not-is_breaking-clause-next
returns-then-not-is_breaking-clause-next c =
    let fs = c.args.frames.now.items in
    let top = c.len-top.result - 1 in
    let some : 0 < length fs = grind (arith, nat_tests) in
    let len : length fs ≡ top + 1 = omega arith in
    let f = c.index.result.now in
    λ held. (ap building.break (stack_top fs top f len c.index.ensures) ∙ no_break f (stack_of (take top fs)) (sym c.if-not-is_breaking.ensures), refl)

pub returns-clause-next : goal.returns-clause-next
returns-clause-next c =
    let rest = c.pop.new.self.items in
    λ held. ap building.break (ap stack_of c.in-Some.ensures.items ∙ stack_pushed rest c.in-Some.frame)
    ∙ (c.broken.ensures (stack_of rest) ∙ ap Some (sym (c.in_ok-next.ensures.next held)))
