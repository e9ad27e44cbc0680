-- The item in work.
use Rattle.std.specs.Prelude.{◌≡◌, ◌≢◌, ℕ, ◌<◌, ◌≤◌, List, [], ◌++◌, length, take, slice_index, Option, Some, None}
use Rattle.cbor_data.specs.Value.{Value}
use Rattle.cbor_data.specs.declared.FaultKind.{FaultKind}
use Rattle.item_nodes.specs.View.{view}
use Rattle.cbor_data.specs.Machine.Machine as machine
use Rattle.cbor_data.specs.Machine.Reads.{LeadsWithin}
use Rattle.read_building.specs.Building.{State, done}
use Rattle.read_building.specs.Builds.{Builds, Notes}
use Rattle.read_building.specs.Counts.{open_in, open_form, held}
use Rattle.read_building.specs.Progress.{IsLive, state_in}
use Rattle.read_building.specs.declared.work.Work.{Work}
use Rattle.read_building.specs.declared.work.Step.{Step}
use Rattle.read_building.specs.declared.work.Step.TheVariants.{More, Item, BadText, Refused, TooDeep}

-- The bytes fed are those of the state, whose item is not whole. At most `depth` containers are open, and the places built
-- and the bytes of strings held are together no more than the bytes fed.
pub record IsBuilding (depth o : ℕ) (fed : List ℕ) (s : State) : Type 0 where
  pub builds : Builds depth o fed s
  pub live : IsLive s
  pub few : open_in s ≤ depth
  pub held : held s ≤ length fed

-- Of the bytes fed the form alone is followed, since the text chunk at this place is not UTF-8. Nothing is held of the value.
pub record IsNoted (depth o : ℕ) (fed : List ℕ) (form : machine.State) (place : ℕ) : Type 0 where
  pub notes : Notes depth o fed form place
  pub live : form ≢ machine.done
  pub few : open_form form ≤ depth

abbrev pub IsWork : ℕ → ℕ → List ℕ → State → machine.State → Option ℕ → Type 0
IsWork depth o fed s form None = IsBuilding depth o fed s
IsWork depth o fed s form (Some place) = IsNoted depth o fed form place

-- this is the item in work after the bytes fed, the first of them at offset o
abbrev pub IsInWork : ℕ → ℕ → List ℕ → Work → Type 0
IsInWork depth o fed w = IsWork depth o fed (state_in w.builder) w.form w.noted

-- the item x ended with byte `used`, and the next one, at whatever offset, has no byte yet
pub record IsBuilt (depth o : ℕ) (fed piece : List ℕ) (used : ℕ) (x : Value) (s : State) (form : machine.State) (noted : Option ℕ) : Type 0 where
  pub some : 0 < used
  pub within : used ≤ length piece
  pub builds : Builds depth o (fed ++ take used piece) (done x)
  pub next : (d p : ℕ) → IsWork d p [] s form noted

-- the item ended with byte `used`, and the first of its text chunks that is not UTF-8 has its head at `place`
pub record IsBadEnd (depth o : ℕ) (fed piece : List ℕ) (used place : ℕ) : Type 0 where
  pub some : 0 < used
  pub within : used ≤ length piece
  pub notes : Notes depth o (fed ++ take used piece) machine.done place

-- the bytes lead to a state that refuses the byte after so many of the piece
pub record IsStopped (depth : ℕ) (fed piece : List ℕ) (used : ℕ) (kind : FaultKind) : Type 0 where
  pub within : used < length piece
  pub state : machine.State
  pub live : state ≢ machine.done
  pub leads : LeadsWithin depth (fed ++ take used piece) state
  pub refused : machine.step state (slice_index piece used) ≡ None
  pub kind_is : machine.refused_kind state (slice_index piece used) ≡ kind

-- the bytes lead to a state that the bound alone keeps from going on by the byte after so many of the piece
pub record IsFull (depth : ℕ) (fed piece : List ℕ) (used : ℕ) : Type 0 where
  pub within : used < length piece
  pub state : machine.State
  pub live : state ≢ machine.done
  pub leads : LeadsWithin depth (fed ++ take used piece) state
  pub stops : machine.step_in depth state (slice_index piece used) ≡ None
  pub else_on : (t : machine.State) × (machine.step state (slice_index piece used) ≡ Some t)

-- What a piece leads to, after the bytes fed.
abbrev pub IsStep : ℕ → ℕ → List ℕ → List ℕ → Step → State → machine.State → Option ℕ → Type 0
IsStep depth o fed piece More s form noted = IsWork depth o (fed ++ piece) s form noted
IsStep depth o fed piece (Item used x) s form noted = IsBuilt depth o fed piece used (view x) s form noted
IsStep depth o fed piece (BadText used place) s form noted = IsBadEnd depth o fed piece used place
IsStep depth o fed piece (Refused used kind) s form noted = IsStopped depth fed piece used kind
IsStep depth o fed piece (TooDeep used) s form noted = IsFull depth fed piece used

abbrev pub IsTaken : ℕ → ℕ → List ℕ → List ℕ → Step → Work → Type 0
IsTaken depth o fed piece step w = IsStep depth o fed piece step (state_in w.builder) w.form w.noted
