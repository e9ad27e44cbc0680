-- Items that are written out, and what reading them back gives.
use Rattle.std.specs.Prelude.{◌≡◌, ℕ, ◌+◌, ◌≤◌, List, [], ◌∷◌, ◌++◌, length, Option, Some, None}
use Rattle.std.specs.Io.KnownBytes as bytes
use Rattle.cbor_data.specs.Value.{Value, depth_of}
use Rattle.cbor_data.specs.Equivalence.{IsSame}
use Rattle.cbor_data.specs.Deterministic.{deterministic}
use Rattle.cbor_data.specs.Preferred.{preferred}
use Rattle.cbor_data.specs.Sound.{IsSound}
use Rattle.cbor_data.specs.Faults.{Bounds, last_offset}
use Rattle.cbor_data.specs.Sequence.{Found}
use Rattle.table_nodes.specs.declared.table.Table.{Table}
use Rattle.seq_run.specs.declared.end.End.{End}
use Rattle.seq_run.specs.declared.end.End.TheVariants.{Clean}
use Rattle.seq_run.specs.declared.output.Mode.{Mode}
use Rattle.seq_run.specs.Ends.{IsAccepted}
use Rattle.seq_run.specs.Output.{stream_output}
use Rattle.seq_run.specs.Running.{Change}

-- The item is sound, accepted, and within the limits as it is written.
pub record IsWritable (accepts : Value → List ℕ → Type 0) (l : Bounds) (x : Value) : Type 0 where
  pub sound : IsSound x
  pub accepted : accepts x (preferred x)
  pub shallow : depth_of x ≤ l.depth
  pub short : length (preferred x) ≤ l.item_bytes

abbrev pub AreWritable : (Value → List ℕ → Type 0) → Bounds → List Value → Type 0
AreWritable accepts l [] = Unit {0}
AreWritable accepts l (x ∷ xs) = IsWritable accepts l x × AreWritable accepts l xs

-- the items' preferred bytes, one after the other
abbrev pub written_bytes : List Value → List ℕ
written_bytes [] = []
written_bytes (x ∷ xs) = preferred x ++ written_bytes xs

-- the items' deterministic bytes, one after the other
abbrev pub deterministic_bytes : List Value → List ℕ
deterministic_bytes [] = []
deterministic_bytes (x ∷ xs) = deterministic x ++ deterministic_bytes xs

abbrev pub AreSound : List Value → Type 0
AreSound [] = Unit {0}
AreSound (x ∷ xs) = IsSound x × AreSound xs

-- as many items, each the same as the other's at its place
abbrev pub AreSameItems : List Value → List Value → Type 0
AreSameItems [] [] = Unit {0}
AreSameItems (x ∷ xs) (y ∷ ys) = IsSame x y × AreSameItems xs ys
AreSameItems xs ys = ⊥

-- the items, each with the offset of its first byte, where the first one's is o
abbrev pub found_from : ℕ → List Value → List Found
found_from o [] = []
found_from o (x ∷ xs) = record { offset = o; item = x } ∷ found_from (o + length (preferred x)) xs

-- all of a stream is these items
abbrev pub clean_end : List Value → End
clean_end items = Clean (length items) (length (written_bytes items))

-- Such items, which the specification accepts in any number of judgements, are this stream as they are written out, which
-- is no longer than a stream may be.
pub record IsWrittenStream (table : Table) (l : Bounds) (items : List Value) (stream : Option (List ℕ)) : Type 0 where
  pub writable : AreWritable (IsAccepted table) l items
  pub short : length (written_bytes items) ≤ last_offset
  pub is : stream ≡ Some (written_bytes items)

-- The end says that all was read, no item failed, and the output of these items and this end went out.
pub record IsReadBack (mode : Mode) (items : List Value) (output : Change) (end : End) (rejected : Option Value) : Type 0 where
  pub clean : end ≡ clean_end items
  pub accepted : rejected ≡ None
  pub reported : bytes.Appends output.before output.after (stream_output mode (found_from 0 items) (clean_end items) None)
