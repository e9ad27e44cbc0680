-- What the next bytes lead to.
use Rattle.std.specs.Prelude.{◌≡◌, ℕ, ◌<◌, ◌≤◌, List, length, take, slice_index, Bool, true, false, Option, Some, None}
use Rattle.cbor_data.specs.Machine.Machine.{State, Frame, item, step, step_in, steps_in, refused_kind}
use Rattle.read_items.specs.Form.Stages.{state_of}
use Rattle.read_items.specs.declared.form.stage.Stage.{Stage}
use Rattle.read_items.specs.declared.form.turn.Turn.{Turn}
use Rattle.read_items.specs.declared.form.turn.Turn.TheVariants.{On, Refused, TooDeep}

-- a byte that opens a container has a length if and only if the machine goes on
abbrev pub IsLength : Bool → Option State → Type 0
IsLength true next = (t : State) × (next ≡ Some t)
IsLength false next = next ≡ None

-- the byte is too deep exactly where the bound alone keeps the machine from going on
abbrev pub IsDeepIf : Bool → ℕ → List Frame → ℕ → Type 0
IsDeepIf true depth K b = (step_in depth (item K) b ≡ None) × ((t : State) × (step (item K) b ≡ Some t))
IsDeepIf false depth K b = step_in depth (item K) b ≡ step (item K) b

-- the first bytes of the rest were used, and led to this stage
pub record IsOn (depth : ℕ) (s : State) (bytes : List ℕ) (used : ℕ) (next : Stage) (after : List Frame) : Type 0 where
  pub some : 0 < used
  pub within : used ≤ length bytes
  pub leads : steps_in depth s (take used bytes) ≡ Some (state_of next after)

abbrev pub IsTurn : ℕ → State → List ℕ → Turn → List Frame → List Frame → Type 0
IsTurn depth s bytes (On used next) before after = IsOn depth s bytes used next after
IsTurn depth s bytes (Refused kind) before after =
    (step s (slice_index bytes 0) ≡ None) × (refused_kind s (slice_index bytes 0) ≡ kind) × (after ≡ before)
IsTurn depth s bytes TooDeep before after =
    (step_in depth s (slice_index bytes 0) ≡ None) × ((t : State) × (step s (slice_index bytes 0) ≡ Some t)) × (after ≡ before)
