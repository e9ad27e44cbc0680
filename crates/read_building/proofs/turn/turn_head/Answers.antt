use Rattle.read_building.specs.Stages.{stack_of, major_of, next_state}
use Rattle.read_building.proofs.WholeHeads.{heads, head_on, kind_small}
use Rattle.read_building.proofs.turn.turn_head.Goals as goal

pub returns-in_ok-next-in_default : goal.returns-in_ok-next-in_default
returns-in_ok-next-in_default c =
    let K = stack_of c.args.frames.now.items in
    let b = c.args.rest.now in
    let m = major_of c.args.kind in
    let held = c.end_head.new.held.items in (
      head_on c.args.depth c.args.at m c.args.argument c.args.end K b (next_state c.in_ok-next-in_default.next held (stack_of c.end_head.new.frames.items))
          (heads b m c.args.argument c.args.end c.requires.kind c.requires.head) (kind_small c.args.kind) c.requires.room (c.in_ok-next-in_default.ensures.next),
      c.in_ok-next-in_default.ensures.kept held,
    )
