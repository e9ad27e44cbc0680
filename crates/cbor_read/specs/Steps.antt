-- Where the item in work goes in a piece, under the limits.
use Rattle.std.specs.Prelude.{◌≡◌, ◌≢◌, ℕ, ◌+◌, ◌<◌, ◌≤◌, ◌⊎◌, List, [], ◌++◌, length, take}
use Rattle.cbor_data.specs.Value.{Value}
use Rattle.cbor_data.specs.Faults.{Bounds, last_offset, IsFaultOf}
use Rattle.item_nodes.specs.View.{view}
use Rattle.cbor_data.specs.Machine.Machine.{State, done}
use Rattle.cbor_data.specs.Machine.Reads.{Reads}
use Rattle.read_building.specs.Working.{IsInWork}
use Rattle.read_building.specs.declared.work.Step.{Step}
use Rattle.read_building.specs.declared.work.Step.TheVariants as steps
use Rattle.read_building.specs.declared.work.Work.{Work}
use Rattle.cbor_read.specs.Reading.{Reading, open_reading}
use Rattle.cbor_read.specs.Answers.{IsUsedUpTo}
use Rattle.cbor_read.specs.Outcomes.{IsSoundButKeys, IsValueOf}
use Rattle.cbor_read.specs.declared.fault.Fault as declared
use Rattle.cbor_data.specs.declared.FaultKind.{FaultKind}
use Rattle.cbor_data.specs.declared.FaultKind.TheVariants as kinds
use Rattle.cbor_read.specs.declared.follow.Advance.{Advance}
use Rattle.cbor_read.specs.declared.follow.Advance.TheVariants.{Open, Whole, Fault}

-- it is reported for a byte, and not of a whole item
abbrev pub IsOfForm : FaultKind → Type 0
IsOfForm kinds.BadText = ⊥
IsOfForm kinds.DuplicateKey = ⊥
IsOfForm _ = Unit {0}

-- the bytes fed are within the limits, and lead to this item in work
pub record IsBegun (l : Bounds) (o : ℕ) (fed : List ℕ) (w : Work) : Type 0 where
  pub work : IsInWork l.depth o fed w
  pub short : length fed ≤ l.item_bytes
  pub placed : o + length fed ≤ last_offset

-- the same, and so many bytes were fed
pub record IsKept (l : Bounds) (o : ℕ) (fed : List ℕ) (count : ℕ) (w : Work) : Type 0 where
  pub same : count ≡ length fed
  pub begun : IsBegun l o fed w

-- the bytes begin an item, and are not all of it
pub record IsOpen (l : Bounds) (o : ℕ) (b : List ℕ) : Type 0 where
  pub state : State
  pub reads : Reads l o b state
  pub live : state ≢ done
  pub some : b ≢ []

-- the bytes have no room for another one
abbrev pub IsFull : Bounds → ℕ → List ℕ → Type 0
IsFull l o b = (length b ≡ l.item_bytes) ⊎ (o + length b ≡ last_offset)

-- whatever follows, this is reported for the byte that comes where there is no room
pub record IsToldPast (l : Bounds) (o : ℕ) (b byte : List ℕ) (kind : FaultKind) : Type 0 where
  pub form : IsOfForm kind
  pub told : (more : List ℕ) → IsFull l o b → IsFaultOf l o (b ++ (byte ++ more)) kind (o + length b)

-- the item x ended with byte `used` of the piece, and the next one, at whatever offset, has no byte yet
pub record IsEnded (l : Bounds) (o : ℕ) (seen piece : List ℕ) (used : ℕ) (x : Value) (w : Work) : Type 0 where
  pub some : 0 < used
  pub within : used ≤ length piece
  pub reads : Reads l o (seen ++ take used piece) done
  pub value : IsValueOf (seen ++ take used piece) x
  pub sound : IsSoundButKeys x
  pub next : (d p : ℕ) → IsInWork d p [] w

-- whatever follows, this fault is reported
pub record IsFaultTurn (old : Reading) (piece : List ℕ) (used : ℕ) (fault : declared.Fault) : Type 0 where
  pub within : used ≤ length piece
  pub told : (more : List ℕ) → IsFaultOf old.limits old.offset ((old.fed ++ piece) ++ more) fault.kind fault.at
  pub place : IsUsedUpTo old piece used fault.kind fault.at

abbrev pub IsFollowed : Bounds → ℕ → List ℕ → List ℕ → Advance → Work → Type 0
IsFollowed l o seen piece Open w = IsBegun l o (seen ++ piece) w
IsFollowed l o seen piece (Whole used x) w = IsEnded l o seen piece used (view x) w
IsFollowed l o seen piece (Fault used fault) w = IsFaultTurn (open_reading l o seen) piece used fault

-- what is wrong with a byte that comes where there is no room: what is wrong with its form, or that it is one too many
abbrev pub kind_past_of : Step → FaultKind
kind_past_of (steps.Refused used kind) = kind
kind_past_of (steps.TooDeep used) = kinds.TooDeep
kind_past_of _ = kinds.TooLong
