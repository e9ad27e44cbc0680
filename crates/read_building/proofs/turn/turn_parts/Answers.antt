use Rattle.std.proofs.Common.{◌≡◌, IfOk, subst, arith}
use Rattle.read_building.specs.Building.{item}
use Rattle.read_building.specs.Stages.{stack_of}
use Rattle.read_building.specs.Taking.{AreTaken}
use Rattle.read_building.specs.Turns.{IsTurn}
use Rattle.read_building.proofs.Taking.{nothing_taken}
use Rattle.read_building.proofs.turn.turn_parts.Goals as goal

pub returns-then-used-gt0 : goal.returns-then-used-gt0
returns-then-used-gt0 c =
    let h = c.in_ok-used.ensures c.args.at in (record { some = c.if-used-gt0.true; within = h.within; run = h.run }, tt)

pub returns : goal.returns
returns c =
    let d = c.args.depth in
    let at = c.args.at in
    let rest = c.args.rest.now in
    let K = stack_of c.args.frames.now.items in
    let L = stack_of c.take_parts.new.frames.items in
    let held = c.turn_item.new.held.items in
    let after = stack_of c.turn_item.new.frames.items in
    let none : c.in_ok-used.used ≡ 0 = omega arith in
    let same : L ≡ K = nothing_taken d at K L rest (subst (λ n. AreTaken d at (item K) rest n (item L)) none (c.in_ok-used.ensures at)) in
    subst (λ M. IfOk c.turn_item.result (λ turn. IsTurn d at (item M) rest turn held after (item after))) same c.turn_item.ensures
