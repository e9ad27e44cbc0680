use Rattle.std.proofs.Common.{refl, ◌∙◌, arith}
use Rattle.read_building.specs.Stages.{stack_of}
use Rattle.read_building.proofs.Stacks.{stack_length}
use Rattle.read_building.proofs.turn.turn_item.Goals as goal

pub returns-then-is_too_deep : goal.returns-then-is_too_deep
returns-then-is_too_deep c =
    let fs = c.args.frames.now.items in
    let h = c.if-is_too_deep.ensures c.args.at (stack_of fs) (stack_length fs ∙ omega arith) in
    (h.0, h.1, refl)

pub turn_head-requires-clause-room : goal.turn_head-requires-clause-room
turn_head-requires-clause-room c = let fs = c.args.frames.now.items in c.if-is_too_deep.ensures c.args.at (stack_of fs) (stack_length fs ∙ omega arith)

pub turn_byte-requires-clause-room : goal.turn_byte-requires-clause-room
turn_byte-requires-clause-room c = let fs = c.args.frames.now.items in c.if-is_too_deep.ensures c.args.at (stack_of fs) (stack_length fs ∙ omega arith)
