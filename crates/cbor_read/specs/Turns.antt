-- What a turn of the reader leads to.
use Rattle.std.specs.Prelude.{◌≡◌, ℕ, ◌<◌, ◌≤◌, List, [], ◌++◌, length, take}
use Rattle.cbor_data.specs.Value.{Value}
use Rattle.cbor_data.specs.Faults.{Bounds, IsItem}
use Rattle.read_building.specs.Working.{IsInWork}
use Rattle.read_building.specs.declared.work.Work.{Work}
use Rattle.cbor_read.specs.Reading.{Reading}
use Rattle.cbor_read.specs.Steps.{IsBegun, IsFaultTurn}
use Rattle.cbor_read.specs.declared.reader.Fed.{Fed}
use Rattle.cbor_read.specs.declared.reader.Fed.TheVariants.{More, Item, Fault}

-- the item x ended with byte `used` of the piece, and the next one, at whatever offset, has no byte yet
pub record IsItemTurn (old : Reading) (piece : List ℕ) (used : ℕ) (x : Value) (w : Work) : Type 0 where
  pub some : 0 < used
  pub within : used ≤ length piece
  pub read : IsItem old.limits old.offset x (old.fed ++ take used piece)
  pub next : (d p : ℕ) → IsInWork d p [] w

-- no item had begun, and the item x is the front of the piece, as far as byte `used`
pub record IsWholeTurn (l : Bounds) (o count : ℕ) (piece : List ℕ) (used : ℕ) (x : Value) : Type 0 where
  pub some : 0 < used
  pub within : used ≤ length piece
  pub first : count ≡ 0
  pub read : IsItem l o x (take used piece)

-- what a piece leads a reader to that has not stopped: its answer, and what is then in work
abbrev pub IsTurn : Reading → List ℕ → Fed → Work → Type 0
IsTurn old piece More w = IsBegun old.limits old.offset (old.fed ++ piece) w
IsTurn old piece (Item used x) w = IsItemTurn old piece used x w
IsTurn old piece (Fault used fault) w = IsFaultTurn old piece used fault
