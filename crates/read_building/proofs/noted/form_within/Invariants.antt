use Rattle.std.proofs.Common.{◌≡◌, take}
use Rattle.cbor_data.specs.Machine.Machine as machine
use Rattle.read_building.specs.Building as building
use Rattle.read_building.specs.Stages.{stack_of}
use Rattle.read_building.proofs.noted.form_within.Given as goal

-- the reader awaits an item in the frames so far
abbrev pub invariant-loop-frame : goal.invariant-loop-frame
invariant-loop-frame l = l.form ≡ machine.item (building.frames_of (stack_of (take l.frame-index l.frames.items)))
