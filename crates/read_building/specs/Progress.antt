-- What a piece leads to.
use Rattle.std.specs.Prelude.{◌≡◌, ℕ, ◌+◌, ◌<◌, ◌≤◌, List, [], length, take, slice_index, Option, Some, None}
use Rattle.cbor_data.specs.Value.{Value}
use Rattle.cbor_data.specs.declared.FaultKind.{FaultKind}
use Rattle.item_nodes.specs.View.{view}
use Rattle.cbor_data.specs.Machine.Machine as machine
use Rattle.read_building.specs.Building.{State, item, done, step, step_in, form_of}
use Rattle.read_building.specs.Builds.{IsRun, IsBadRun}
use Rattle.read_building.specs.Noted.{IsFormAfter}
use Rattle.read_building.specs.Stages.{stack_of, state_of}
use Rattle.read_building.specs.declared.builder.Builder.{Builder}
use Rattle.read_building.specs.declared.build.Progress.{Progress}
use Rattle.read_building.specs.declared.build.Progress.TheVariants.{More, Whole, BadText, Refused, TooDeep}

-- where a builder is
abbrev pub state_in : Builder → State
state_in b = state_of b.stage b.held.items (stack_of b.frames.items)

-- an item is not whole
abbrev pub IsLive : State → Type 0
IsLive (done x) = ⊥
IsLive _ = Unit {0}

-- the item x ended with byte `used`, and the next one is awaited
pub record IsItemEnd (depth at : ℕ) (s : State) (piece : List ℕ) (used : ℕ) (x : Value) (t : State) : Type 0 where
  pub some : 0 < used
  pub within : used ≤ length piece
  pub run : IsRun depth at s (take used piece) (done x)
  pub next : t ≡ item []

-- with byte `used` a text chunk ended that is no UTF-8
pub record IsBad (depth at : ℕ) (s : State) (piece : List ℕ) (used place : ℕ) (form : Option machine.State) (t : State) : Type 0 where
  pub some : 0 < used
  pub within : used ≤ length piece
  pub state : State
  pub run : IsBadRun depth at s (take used piece) state place
  pub after : IsFormAfter (form_of state) form
  pub next : t ≡ item []

-- the machine goes no further than to t, since it refuses the byte after so many
pub record IsRefused (depth at : ℕ) (s : State) (piece : List ℕ) (used : ℕ) (kind : FaultKind) (t : State) : Type 0 where
  pub within : used < length piece
  pub run : IsRun depth at s (take used piece) t
  pub refused : step (at + used) t (slice_index piece used) ≡ None
  pub kind_is : machine.refused_kind (form_of t) (slice_index piece used) ≡ kind

-- the bound alone keeps the machine from going on from t by the byte after so many
pub record IsTooDeep (depth at : ℕ) (s : State) (piece : List ℕ) (used : ℕ) (t : State) : Type 0 where
  pub within : used < length piece
  pub run : IsRun depth at s (take used piece) t
  pub stops : step_in depth (at + used) t (slice_index piece used) ≡ None
  pub else_on : (u : State) × (step (at + used) t (slice_index piece used) ≡ Some u)

-- A builder in the state s is given a piece, whose first byte is at this offset, and answers this in the state t.
abbrev pub IsProgress : ℕ → ℕ → State → List ℕ → Progress → State → Type 0
IsProgress depth at s piece More t = IsRun depth at s piece t
IsProgress depth at s piece (Whole used x) t = IsItemEnd depth at s piece used (view x) t
IsProgress depth at s piece (BadText used place form) t = IsBad depth at s piece used place form t
IsProgress depth at s piece (Refused used kind) t = IsRefused depth at s piece used kind t
IsProgress depth at s piece (TooDeep used) t = IsTooDeep depth at s piece used t
