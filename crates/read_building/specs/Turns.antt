-- What the next bytes lead to.
use Rattle.std.specs.Prelude.{◌≡◌, ℕ, ◌<◌, ◌≤◌, List, length, take, slice_index, Bool, true, false, Option, Some, None, IsUtf8}
use Rattle.cbor_data.specs.Machine.Machine as machine
use Rattle.read_building.specs.Building.{State, Frame, item, step, step_in, form_of, frames_of}
use Rattle.read_building.specs.Builds.{IsRun, IsBadRun}
use Rattle.read_building.specs.Noted.{after_text}
use Rattle.read_building.specs.Stages.{next_state}
use Rattle.read_building.specs.declared.stage.Stage.{Stage}
use Rattle.read_building.specs.declared.stage.Stage.TheVariants as stage
use Rattle.read_building.specs.declared.stage.Next.{Next}
use Rattle.read_building.specs.declared.stage.Next.TheVariants.{Await, Whole}
use Rattle.read_building.specs.declared.turn.Turn.{Turn}
use Rattle.read_building.specs.declared.turn.Turn.TheVariants.{On, BadText, Refused, TooDeep}

-- What is held of a string in chunks: those of a text are UTF-8.
abbrev pub IsHeld : Stage → List ℕ → Type 0
IsHeld (stage.Chunk true) held = IsUtf8 held
IsHeld (stage.ChunkArgument from true p) held = IsUtf8 held
IsHeld (stage.ChunkStr from true left start) held = (start ≤ length held) × IsUtf8 (take start held)
IsHeld (stage.ChunkStr from false left start) held = start ≤ length held
IsHeld _ held = Unit {0}

abbrev pub IsKept : Next → List ℕ → Type 0
IsKept (Await s) held = IsHeld s held
IsKept (Whole x) held = Unit {0}

-- the first bytes of the rest were used, and led to this state
pub record IsOn (depth at : ℕ) (s : State) (bytes : List ℕ) (used : ℕ) (t : State) : Type 0 where
  pub some : 0 < used
  pub within : used ≤ length bytes
  pub run : IsRun depth at s (take used bytes) t

-- they led to the end of a text chunk that is no UTF-8, whose head is at `place`
pub record IsBadOn (depth at : ℕ) (s : State) (bytes : List ℕ) (used place : ℕ) (in_chunks : Bool) (K : List Frame) : Type 0 where
  pub some : 0 < used
  pub within : used ≤ length bytes
  pub state : State
  pub run : IsBadRun depth at s (take used bytes) state place
  pub form : form_of state ≡ after_text in_chunks (frames_of K)

-- a byte that opens a container has a length if and only if the machine goes on
abbrev pub IsLength : Bool → Option State → Type 0
IsLength true next = (t : State) × (next ≡ Some t)
IsLength false next = next ≡ None

-- the byte is too deep exactly where the bound alone keeps the machine from going on
abbrev pub IsDeepIf : Bool → ℕ → ℕ → List Frame → ℕ → Type 0
IsDeepIf true depth at K b = (step_in depth at (item K) b ≡ None) × ((t : State) × (step at (item K) b ≡ Some t))
IsDeepIf false depth at K b = step_in depth at (item K) b ≡ step at (item K) b

-- the bound does not keep the machine from going on by this byte
abbrev pub HasRoom : ℕ → ℕ → List Frame → ℕ → Type 0
HasRoom depth at K b = step_in depth at (item K) b ≡ step at (item K) b

-- `stay` is the state where nothing is used
abbrev pub IsTurn : ℕ → ℕ → State → List ℕ → Turn → List ℕ → List Frame → State → Type 0
IsTurn depth at s bytes (On used next) held after stay = IsOn depth at s bytes used (next_state next held after) × IsKept next held
IsTurn depth at s bytes (BadText used place in_chunks) held after stay = IsBadOn depth at s bytes used place in_chunks after
IsTurn depth at s bytes (Refused kind) held after stay =
    (step at s (slice_index bytes 0) ≡ None) × (machine.refused_kind (form_of s) (slice_index bytes 0) ≡ kind) × (stay ≡ s)
IsTurn depth at s bytes TooDeep held after stay =
    (step_in depth at s (slice_index bytes 0) ≡ None) × ((t : State) × (step at s (slice_index bytes 0) ≡ Some t)) × (stay ≡ s)
