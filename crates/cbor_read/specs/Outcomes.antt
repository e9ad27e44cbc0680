-- What the bytes of a whole item come to.
use Rattle.std.specs.Prelude.{◌≡◌, ℕ, ◌<◌, ◌≤◌, List, ◌++◌, length, take}
use Rattle.cbor_data.specs.Value.{Value, depth_of}
use Rattle.cbor_data.specs.Validity.{IsFirstRepeatedKey}
use Rattle.cbor_data.specs.Sound.{IsSound, HasShortSpelling}
use Rattle.cbor_data.specs.Forms.{Form, flat, IsOk, HasText, meaning}
use Rattle.cbor_data.specs.Faults.{Bounds, IsItem, IsFaultOf}
use Rattle.cbor_data.specs.Machine.Machine.{done}
use Rattle.cbor_data.specs.Machine.Reads.{LeadsWithin, Reads}
use Rattle.cbor_read.specs.declared.fault.Fault as declared
use Rattle.cbor_data.specs.declared.FaultKind.{FaultKind}
use Rattle.cbor_data.specs.declared.FaultKind.TheVariants.{BadText, DuplicateKey}
use Rattle.cbor_read.specs.declared.value.Outcome.{Outcome}
use Rattle.cbor_read.specs.declared.value.Outcome.TheVariants.{Item, Fault}

-- it is reported for a whole item
abbrev pub IsOfValue : FaultKind → Type 0
IsOfValue BadText = Unit {0}
IsOfValue DuplicateKey = Unit {0}
IsOfValue _ = ⊥

-- whatever follows the item's bytes, this fault is reported for them
pub record IsWrong (l : Bounds) (o : ℕ) (b : List ℕ) (fault : declared.Fault) : Type 0 where
  pub value : IsOfValue fault.kind
  pub told : (more : List ℕ) → IsFaultOf l o (b ++ more) fault.kind fault.at

-- what is known of the value of the bytes b: each form that prints them has it, and texts that are UTF-8
pub record IsValueOf (b : List ℕ) (x : Value) : Type 0 where
  pub means : (f : Form) → IsOk f → b ≡ flat f → HasText f × (x ≡ meaning f)

abbrev pub IsOutcome : Bounds → ℕ → List ℕ → Outcome → Type 0
IsOutcome l o b (Item x) = IsItem l o x b
IsOutcome l o b (Fault fault) = IsWrong l o b fault

-- the first n bytes of b, one at least, are a whole item no deeper than this, and this is the item
pub record IsFrontItem (depth : ℕ) (b : List ℕ) (n : ℕ) (x : Value) : Type 0 where
  pub some : 0 < n
  pub within : n ≤ length b
  pub leads : LeadsWithin depth (take n b) done
  pub comes : (l : Bounds) (o : ℕ) → Reads l o (take n b) done → IsItem l o x (take n b)

-- the item is sound unless it repeats a key
pub record IsSoundButKeys (x : Value) : Type 0 where
  pub shallow : depth_of x ≤ 256
  pub short : HasShortSpelling x

-- the item x is sound, or it repeats a key, at this place first
abbrev pub IsSettled : Value → Outcome → Type 0
IsSettled x (Item y) = (y ≡ x) × IsSound x
IsSettled x (Fault fault) = (fault.kind ≡ DuplicateKey) × IsFirstRepeatedKey x fault.at
