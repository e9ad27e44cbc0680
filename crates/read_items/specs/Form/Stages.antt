-- What a reader's fields say, as a state of the machine.
use Rattle.std.specs.Prelude.{◌≡◌, List, [], ◌∷◌, Option, Some, None, Bool, true, false}
use Rattle.cbor_data.specs.Machine.Machine as machine
use Rattle.read_items.specs.declared.partial.Partial.{Partial}
use Rattle.read_items.specs.declared.form.frame.Frame.{Frame}
use Rattle.read_items.specs.declared.form.frame.Frame.TheVariants.{Rest, Until, UntilKey, UntilValue}
use Rattle.read_items.specs.declared.form.stage.Stage.{Stage}
use Rattle.read_items.specs.declared.form.stage.Stage.TheVariants as stage

abbrev pub frame_of : Frame → machine.Frame
frame_of (Rest n) = machine.rest n
frame_of Until = machine.until
frame_of UntilKey = machine.until_key
frame_of UntilValue = machine.until_value

-- the frames on top of others, the last one uppermost
abbrev pub stack_onto : List machine.Frame → List Frame → List machine.Frame
stack_onto below [] = below
stack_onto below (f ∷ fs) = stack_onto (frame_of f ∷ below) fs

abbrev pub stack_of : List Frame → List machine.Frame
stack_of fs = stack_onto [] fs

abbrev pub state_of : Stage → List machine.Frame → machine.State
state_of stage.Item K = machine.item K
state_of (stage.Argument m p) K = machine.argument m p.left p.value K
state_of (stage.Body n) K = machine.body n K
state_of (stage.Chunk m) K = machine.chunk m K
state_of (stage.ChunkArgument m p) K = machine.chunk_argument m p.left p.value K
state_of (stage.ChunkBody m n) K = machine.chunk_body m n K
state_of stage.Simple K = machine.simple K
state_of stage.Done K = machine.done

abbrev pub IsAwaiting : Stage → Type 0
IsAwaiting stage.Done = ⊥
IsAwaiting _ = Unit {0}

-- what is open after an item, with the frame that its container then has
abbrev pub after_frame : Option Frame → List machine.Frame → machine.State
after_frame None K = machine.give K
after_frame (Some f) K = machine.item (frame_of f ∷ K)

abbrev pub next_of : Option Stage → List machine.Frame → Option machine.State
next_of None K = None
next_of (Some s) K = Some (state_of s K)

-- the stage and the stack are as expected; where nothing is, the stack is as it was
abbrev pub IsNext : Option machine.State → Option Stage → List machine.Frame → List machine.Frame → Type 0
IsNext expected None before after = (expected ≡ None) × (after ≡ before)
IsNext expected (Some s) before after = expected ≡ Some (state_of s after)

-- whether the last item was given, or the state after
abbrev pub IsGiven : Bool → machine.State → machine.State → Type 0
IsGiven true given new = given ≡ machine.done
IsGiven false given new = new ≡ given
