-- What a piece leads to.
use Rattle.std.specs.Prelude.{◌≡◌, ℕ, ◌<◌, ◌≤◌, List, [], length, take, slice_index, Some, None}
use Rattle.cbor_data.specs.declared.FaultKind.{FaultKind}
use Rattle.cbor_data.specs.Machine.Machine.{State, item, done, step, step_in, steps_in, refused_kind}
use Rattle.read_items.specs.declared.form.reader.Progress.{Progress}
use Rattle.read_items.specs.declared.form.reader.Progress.TheVariants.{More, Whole, Refused, TooDeep}

-- the item ended with byte `used`, and the next one is awaited
pub record IsItemEnd (depth : ℕ) (s : State) (piece : List ℕ) (used : ℕ) (t : State) : Type 0 where
  pub some : 0 < used
  pub within : used ≤ length piece
  pub leads : steps_in depth s (take used piece) ≡ Some done
  pub next : t ≡ item []

-- the machine goes no further than to t, since it refuses the byte after so many
pub record IsRefused (depth : ℕ) (s : State) (piece : List ℕ) (used : ℕ) (kind : FaultKind) (t : State) : Type 0 where
  pub within : used < length piece
  pub leads : steps_in depth s (take used piece) ≡ Some t
  pub refused : step t (slice_index piece used) ≡ None
  pub kind_is : refused_kind t (slice_index piece used) ≡ kind

-- the bound alone keeps the machine from going on from t by the byte after so many
pub record IsTooDeep (depth : ℕ) (s : State) (piece : List ℕ) (used : ℕ) (t : State) : Type 0 where
  pub within : used < length piece
  pub leads : steps_in depth s (take used piece) ≡ Some t
  pub stops : step_in depth t (slice_index piece used) ≡ None
  pub else_on : (u : State) × (step t (slice_index piece used) ≡ Some u)

-- A reader in the state s is given a piece, with at most `depth` containers open, and answers this in the state t.
abbrev pub IsProgress : ℕ → State → List ℕ → Progress → State → Type 0
IsProgress depth s piece More t = steps_in depth s piece ≡ Some t
IsProgress depth s piece (Whole used) t = IsItemEnd depth s piece used t
IsProgress depth s piece (Refused used kind) t = IsRefused depth s piece used kind t
IsProgress depth s piece (TooDeep used) t = IsTooDeep depth s piece used t
