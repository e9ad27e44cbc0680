-- What a run leaves.
use Rattle.std.specs.Prelude.{◌≡◌, ◌≢◌, ℕ, suc, ◌<◌, ◌≤◌, ◌⊎◌, List, [], ◌++◌, length, take, Option, Some, None, IfSome}
use Rattle.std.specs.Io.KnownBytes as bytes
use Rattle.cbor_data.specs.Value.{Value}
use Rattle.cbor_data.specs.Faults.{Bounds}
use Rattle.cbor_data.specs.Sequence.{Found}
use Rattle.item_nodes.specs.Counted.{device_of, failures_of, HasRisen}
use Rattle.item_nodes.specs.declared.counted.Counted.{Counted}
use Rattle.seq_run.specs.Judge.{Judge}
use Rattle.seq_run.specs.declared.end.End.{End}
use Rattle.seq_run.specs.declared.end.State.{State}
use Rattle.seq_run.specs.declared.end.State.TheVariants as state
use Rattle.seq_run.specs.declared.end.Stopped.TheVariants.{Ended}
use Rattle.seq_run.specs.declared.output.Mode.{Mode}
use Rattle.seq_run.specs.declared.running.RunFault.{RunFault}
use Rattle.seq_run.specs.declared.running.RunFault.TheVariants.{ReadFailed, WriteFailed, Memory}
use Rattle.seq_run.specs.Ends.{BeginsWith, IsRun, Ends}
use Rattle.seq_run.specs.Parts.{IsRejected}
use Rattle.seq_run.specs.Progress.{Progress}
use Rattle.seq_run.specs.Answers.{IsOpen, IsUndecided}
use Rattle.seq_run.specs.Output.{items_output, end_output, stream_output}

-- A counted device before and after a call: the bytes that are known of it, which a reader still has to give or a writer
-- has taken, and how often it has failed.
pub record Change : Type 0 where
  pub before : Option (List ℕ)
  pub after : Option (List ℕ)
  pub failures_before : ℕ
  pub failures_after : ℕ

-- the change from one state of a device to another, by what is known of its bytes
abbrev pub change_of : {D : Type 0} → (D → Option (List ℕ)) → Counted D → Counted D → Change
change_of bytes_of old new =
    record { before = bytes_of (device_of old); after = bytes_of (device_of new); failures_before = failures_of old; failures_after = failures_of new }

-- the device has failed in the call
abbrev pub HasFailed : Change → Type 0
HasFailed device = HasRisen device.failures_before device.failures_after

-- the device has not failed in the call
abbrev pub HasNotFailed : Change → Type 0
HasNotFailed device = device.failures_after ≡ device.failures_before

-- The stream ends so, with this item where the end is a mismatch, and the whole output of its items and its end went out.
pub record WritesAll (mode : Mode) (judge : Judge) (l : Bounds) (stream : List ℕ) (output : Change) (end : End) (rejected : Option Value) : Type 0 where
  pub found : List Found
  pub ends : Ends judge l stream found end
  pub rejects : IsRejected judge l stream found end rejected
  pub written : bytes.Appends output.before output.after (stream_output mode found end rejected)

-- The bytes are the whole output of the stream.
pub record IsWholeOutput (mode : Mode) (judge : Judge) (l : Bounds) (stream out : List ℕ) : Type 0 where
  pub found : List Found
  pub end : End
  pub rejected : Option Value
  pub ends : Ends judge l stream found end
  pub rejects : IsRejected judge l stream found end rejected
  pub is : out ≡ stream_output mode found end rejected

-- The bytes begin the output of the stream, whatever its end is.
abbrev pub IsBeginning : Mode → Judge → Bounds → List ℕ → List ℕ → Type 0
IsBeginning mode judge l stream out = (found : List Found) (end : End) (rejected : Option Value) → Ends judge l stream found end → IsRejected judge l stream found end rejected →
    (after : List ℕ) × (stream_output mode found end rejected ≡ out ++ after)

-- Exactly the first k bytes of the stream's output went out.
pub record WritesFirst (mode : Mode) (judge : Judge) (l : Bounds) (stream : List ℕ) (output : Change) (k : ℕ) : Type 0 where
  pub out : List ℕ
  pub front : IsWholeOutput mode judge l stream out ⊎ IsBeginning mode judge l stream out
  pub short : k < length out
  pub written : bytes.Appends output.before output.after (take k out)

-- Exactly the output of the n items went out that the bytes read begin with.
pub record WritesItems (mode : Mode) (judge : Judge) (l : Bounds) (input output : Change) (n : ℕ) : Type 0 where
  pub read : List ℕ
  pub found : List Found
  pub rest : List ℕ
  pub consumed : bytes.Consumes input.before input.after read
  pub begins : BeginsWith judge l read found rest
  pub count : n ≡ length found
  pub written : bytes.Appends output.before output.after (items_output mode 1 found)

-- the same, of all items of the bytes read
pub record WritesRun (mode : Mode) (judge : Judge) (l : Bounds) (input output : Change) (n : ℕ) : Type 0 where
  pub read : List ℕ
  pub found : List Found
  pub rest : List ℕ
  pub consumed : bytes.Consumes input.before input.after read
  pub run : IsRun judge l read found rest
  pub count : n ≡ length found
  pub written : bytes.Appends output.before output.after (items_output mode 1 found)

-- Nothing was read after the piece that shows the end: the bytes before the last piece leave the end open, and that piece
-- has at most 4,096 bytes.
pub record ReadsByPieces (judge : Judge) (l : Bounds) (input : Change) : Type 0 where
  pub front : List ℕ
  pub piece : List ℕ
  pub consumed : bytes.Consumes input.before input.after (front ++ piece)
  pub few : length piece ≤ 4096
  pub found : List Found
  pub end : End
  pub ends : Ends judge l front found end
  pub undecided : IsUndecided (length front) end

-- why a run stopped early, and what went out: a device failed only where its count has risen
abbrev pub IsFault : Mode → Judge → Bounds → Change → Change → RunFault → Type 0
IsFault mode judge l input output (ReadFailed n) = HasFailed input × WritesRun mode judge l input output n
IsFault mode judge l input output (WriteFailed k) = HasFailed output × IfSome input.before (λ stream. WritesFirst mode judge l stream output k)
IsFault mode judge l input output (Memory n) = HasNotFailed input × HasNotFailed output × WritesItems mode judge l input output n

-- The piece was fed, and the output of the items that it completes was appended.
pub record Adds (mode : Mode) (old : Progress) (piece out : List ℕ) (new : Progress) (out_new : List ℕ) : Type 0 where
  pub fed : new.fed ≡ old.fed ++ piece
  pub added : List Found
  pub taken : new.taken ≡ old.taken ++ added
  pub written : out_new ≡ out ++ items_output mode (suc (length old.taken)) added
  pub judge : new.judge ≡ old.judge
  pub limits : new.limits ≡ old.limits

-- The session has this end: of each stream that begins with the bytes fed, or, where the last piece is empty, of these.
pub record IsSettled (end : End) (piece : List ℕ) (new : Progress) : Type 0 where
  pub ends : (more : List ℕ) → (piece ≡ [] → more ≡ []) → Ends new.judge new.limits (new.fed ++ more) new.taken end
  pub stopped : new.stopped ≡ Some (Ended end)

-- what is known after a piece, which is empty where the stream ends
abbrev pub IsDecided : State → List ℕ → Progress → Type 0
IsDecided state.Open piece new = (piece ≢ []) × IsOpen new
IsDecided (state.Ended end) piece new = IsSettled end piece new

-- what is known after a piece, and the output of the end, with the item that failed, if the end is known
abbrev pub IsLast : Mode → Option End → List ℕ → Progress → List ℕ → Type 0
IsLast mode None piece new last = (last ≡ []) × (piece ≢ []) × IsOpen new
IsLast mode (Some end) piece new last = (rejected : Option Value) × IsRejected new.judge new.limits new.fed new.taken end rejected × (last ≡ end_output mode end rejected) × IsSettled end piece new

-- A piece, or the end of the stream where it is empty, was taken, and this is its output.
pub record IsPieceDone (mode : Mode) (old : Progress) (piece : List ℕ) (end : Option End) (new : Progress) (out : List ℕ) : Type 0 where
  pub items : List ℕ
  pub adds : Adds mode old piece [] new items
  pub last : List ℕ
  pub line : IsLast mode end piece new last
  pub written : out ≡ items ++ last
