use Rattle.std.proofs.Common.{◌≡◌, ◌≤◌, ◌-◌, length, take, Some}
use Rattle.cbor_data.specs.Machine.Machine.{steps_in}
use Rattle.read_items.specs.Form.Stages.{stack_of, state_of, IsAwaiting}
use Rattle.read_items.proofs.form.reader.read_on.Given as goal

-- the stage and the stack are where the bytes so far lead
abbrev pub invariant-loop-used : goal.invariant-loop-used
invariant-loop-used l = record {
  within : l.used ≤ length l.piece;
  awaiting : IsAwaiting l.stage;
  leads : steps_in l.depth (state_of l.fn.stage (stack_of l.fn.frames.items)) (take l.used l.piece) ≡ Some (state_of l.stage (stack_of l.frames.items));
}

abbrev pub decreases-loop-used : goal.decreases-loop-used
decreases-loop-used l = length l.piece - l.used
