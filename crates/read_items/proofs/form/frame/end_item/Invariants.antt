use Rattle.std.proofs.Common.{◌≡◌, vec_len}
use Rattle.cbor_data.specs.Machine.Machine as machine
use Rattle.read_items.specs.Form.Stages.{stack_of}
use Rattle.read_items.proofs.form.frame.end_item.Given as goal

-- what the item's end leads to stays the same
abbrev pub invariant-loop-frames : goal.invariant-loop-frames
invariant-loop-frames l = machine.give (stack_of l.frames.items) ≡ machine.give (stack_of l.fn.frames.items)

abbrev pub decreases-loop-frames : goal.decreases-loop-frames
decreases-loop-frames l = vec_len l.frames
