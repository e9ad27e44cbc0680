use Rattle.std.proofs.Common.{◌≡◌, vec_len}
use Rattle.read_building.specs.Building as building
use Rattle.item_nodes.specs.View.{view}
use Rattle.read_building.specs.Stages.{stack_of}
use Rattle.read_building.proofs.frame.end_item.Given as goal

-- what the item leads to stays the same
abbrev pub invariant-loop-alloc : goal.invariant-loop-alloc
invariant-loop-alloc l = building.give (view l.item) (stack_of l.frames.items) ≡ building.give (view l.fn.item) (stack_of l.fn.frames.items)

abbrev pub decreases-loop-alloc : goal.decreases-loop-alloc
decreases-loop-alloc l = vec_len l.frames
