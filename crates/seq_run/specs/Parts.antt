-- What holds of a session's parts.
use Rattle.std.specs.Prelude.{◌≡◌, ℕ, ◌+◌, ◌≤◌, ◌⊎◌, List, [], ◌++◌, length, Option, Some, None}
use Rattle.cbor_data.specs.Value.{Value}
use Rattle.cbor_data.specs.Forms.{IsUnfinished}
use Rattle.cbor_data.specs.Faults.{Bounds, last_offset, BeginsWithin, IsClearBefore, IsItem}
use Rattle.cbor_data.specs.Sequence.{Found}
use Rattle.cbor_read.specs.Reading.{Reading}
use Rattle.seq_run.specs.Judge.{Judge}
use Rattle.seq_run.specs.declared.end.Cause.TheVariants.{Mismatch}
use Rattle.seq_run.specs.declared.end.End.{End}
use Rattle.seq_run.specs.declared.end.End.TheVariants.{Failed}
use Rattle.seq_run.specs.declared.end.Stopped.{Stopped}
use Rattle.seq_run.specs.declared.end.Stopped.TheVariants.{Ended, Memory}
use Rattle.seq_run.specs.Ends.{BeginsWith, IsRun, Ends}

-- The bytes, at this offset of the stream, are none, or the beginning of an item in which nothing is wrong so far.
abbrev pub IsClearRest : Bounds → ℕ → List ℕ → Type 0
IsClearRest l o rest = (rest ≡ []) ⊎ (IsUnfinished rest × BeginsWithin l.depth rest × IsClearBefore l o rest (length rest))

-- After the items of the stream's run comes this one.
pub record IsNext (judge : Judge) (l : Bounds) (stream : List ℕ) (found : List Found) (x : Value) : Type 0 where
  pub rest : List ℕ
  pub offset : ℕ
  pub front : List ℕ
  pub back : List ℕ
  pub run : IsRun judge l stream found rest
  pub offset_is : offset + length rest ≡ length stream
  pub parts : rest ≡ front ++ back
  pub item : IsItem l offset x front

-- Where the end is a mismatch, the item that fails; else none.
abbrev pub IsRejected : Judge → Bounds → List ℕ → List Found → End → Option Value → Type 0
IsRejected judge l stream found (Failed items offset (Mismatch place)) (Some x) = IsNext judge l stream found x
IsRejected judge l stream found (Failed items offset (Mismatch place)) None = ⊥
IsRejected judge l stream found _ rejected = rejected ≡ None

-- So many items were taken, and so many bytes are theirs: the bytes fed begin with them, and then comes the rest.
pub record IsCounted (judge : Judge) (l : Bounds) (fed : List ℕ) (taken : List Found) (items bytes : ℕ) : Type 0 where
  pub items_is : items ≡ length taken
  pub rest : List ℕ
  pub begins : BeginsWith judge l fed taken rest
  pub bytes_is : bytes + length rest ≡ length fed

-- what a session keeps beside what callers see: its reader, how many items it has accepted, the offset of the next one,
-- how many bytes it has taken, and the item that does not match
pub record Parts : Type 0 where
  pub reader : Reading
  pub items : ℕ
  pub offset : ℕ
  pub bytes : ℕ
  pub rejected : Option Value

abbrev pub parts_of : Reading → ℕ → ℕ → ℕ → Option Value → Parts
parts_of reader items offset bytes rejected = record { reader = reader; items = items; offset = offset; bytes = bytes; rejected = rejected }

-- the parts of a session that has not stopped
pub record IsRunning (judge : Judge) (l : Bounds) (fed : List ℕ) (taken : List Found) (parts : Parts) : Type 0 where
  pub takes : BeginsWith judge l fed taken parts.reader.fed
  pub items_is : parts.items ≡ length taken
  pub offset_is : parts.offset ≡ parts.reader.offset
  pub bytes_is : parts.bytes ≡ length fed
  pub reaches : parts.offset + length parts.reader.fed ≡ parts.bytes
  pub short : parts.bytes ≤ last_offset
  pub limits : parts.reader.limits ≡ l
  pub going : parts.reader.stopped ≡ None
  pub clear_rest : IsClearRest l parts.reader.offset parts.reader.fed
  pub none : parts.rejected ≡ None

-- what holds of a session's parts, by why it has stopped, if it has
abbrev pub AreParts : Option Stopped → Judge → Bounds → List ℕ → List Found → Parts → Type 0
AreParts None judge l fed taken parts = IsRunning judge l fed taken parts
AreParts (Some Memory) judge l fed taken parts = IsCounted judge l fed taken parts.items parts.offset × (parts.rejected ≡ None)
AreParts (Some (Ended end)) judge l fed taken parts =
    IsCounted judge l fed taken parts.items parts.offset × Ends judge l fed taken end × IsRejected judge l fed taken end parts.rejected
