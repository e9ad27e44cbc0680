-- What the answers of a session's calls say.
use Rattle.std.specs.Prelude.{◌≡◌, ℕ, ◌+◌, ◌<◌, ◌≤◌, List, [], ◌∷◌, ◌++◌, All, length, take, map, Option, Some, None, Result, Ok, Err, alloc_error}
use Rattle.std.specs.declared.alloc.AllocError.{AllocError}
use Rattle.cbor_data.specs.Value.{Value}
use Rattle.cbor_data.specs.Faults.{last_offset}
use Rattle.cbor_data.specs.Sequence.{Found}
use Rattle.cbor_data.specs.declared.FaultKind.{FaultKind}
use Rattle.cbor_data.specs.declared.FaultKind.TheVariants as kind
use Rattle.cbor_tape.specs.Tape.{IsWholeTape}
use Rattle.cbor_tape.specs.declared.entry.Entry.{Entry}
use Rattle.seq_run.specs.declared.end.Cause.TheVariants.{Fault, Mismatch, Spent}
use Rattle.seq_run.specs.declared.end.End.{End}
use Rattle.seq_run.specs.declared.end.End.TheVariants.{Clean, Failed}
use Rattle.seq_run.specs.declared.end.State.{State}
use Rattle.seq_run.specs.declared.end.State.TheVariants as state
use Rattle.seq_run.specs.declared.end.Stopped.{Stopped}
use Rattle.seq_run.specs.declared.end.Stopped.TheVariants.{Ended, Memory}
use Rattle.seq_run.specs.declared.session.Step.{Step}
use Rattle.seq_run.specs.declared.session.Step.TheVariants as step
use Rattle.seq_run.specs.Ends.{BeginsWith, Ends}
use Rattle.seq_run.specs.Parts.{IsCounted, IsRejected}
use Rattle.seq_run.specs.Progress.{Progress}
use Rattle.seq_run.specs.Smalls.{smalls_from}

abbrev pub items_of : List Found → List Value
items_of found = map (λ f. f.item) found

-- a fault that is reported after the last byte of a stream, for want of more
abbrev pub IsAtEndKind : FaultKind → Type 0
IsAtEndKind kind.Truncated = Unit {0}
IsAtEndKind kind.TooLong = Unit {0}
IsAtEndKind _ = ⊥

-- More bytes may change this end of a stream of that length: it is clean, or the stream ends inside an item, or the item
-- has all the bytes that it may have and no byte follows.
abbrev pub IsUndecided : ℕ → End → Type 0
IsUndecided n (Clean items bytes) = Unit {0}
IsUndecided n (Failed items offset (Fault f)) = (f.at ≡ n) × IsAtEndKind f.kind
IsUndecided n (Failed items offset (Mismatch place)) = ⊥
IsUndecided n (Failed items offset Spent) = ⊥

-- The bytes fed have this end, and more bytes may change it.
pub record IsOpen (p : Progress) : Type 0 where
  pub end : End
  pub ends : Ends p.judge p.limits p.fed p.taken end
  pub undecided : IsUndecided (length p.fed) end
  pub short : length p.fed ≤ last_offset
  pub going : p.stopped ≡ None

-- Each stream that begins with the bytes fed has this end.
pub record IsEnded (p : Progress) (end : End) : Type 0 where
  pub ends : (more : List ℕ) → Ends p.judge p.limits (p.fed ++ more) p.taken end
  pub stopped : p.stopped ≡ Some (Ended end)

-- The bytes fed begin with the items taken; the run of these bytes may have more.
pub record IsCutShort (p : Progress) : Type 0 where
  pub rest : List ℕ
  pub begins : BeginsWith p.judge p.limits p.fed p.taken rest
  pub stopped : p.stopped ≡ Some Memory

-- what `feed` answers of a session that has not stopped
abbrev pub IsFed : Result State AllocError → Progress → Type 0
IsFed (Ok state.Open) new = IsOpen new
IsFed (Ok (state.Ended end)) new = IsEnded new end
IsFed (Err e) new = IsCutShort new

-- what `feed` answers
abbrev pub IsAnswer : Option Stopped → Progress → List ℕ → Result State AllocError → Progress → Type 0
IsAnswer None old piece result new = (new.fed ≡ old.fed ++ piece) × IsFed result new
IsAnswer (Some (Ended end)) old piece result new = (result ≡ Ok (state.Ended end)) × (new ≡ old)
IsAnswer (Some Memory) old piece result new = (result ≡ Err alloc_error) × (new ≡ old)

-- The items that came to the session's are those that came to the list, and the specification, the steps and the limits
-- stay.
pub record Appends (old new : Progress) (out_old out_new : List Value) : Type 0 where
  pub added : List Found
  pub taken : new.taken ≡ old.taken ++ added
  pub out : out_new ≡ out_old ++ items_of added
  pub judge : new.judge ≡ old.judge
  pub limits : new.limits ≡ old.limits

-- what `finish` answers
abbrev pub IsFinish : Option Stopped → Progress → Result End AllocError → Progress → Type 0
IsFinish None old (Ok end) new = Ends old.judge old.limits old.fed old.taken end × (new ≡ record old { stopped = Some (Ended end) })
IsFinish None old (Err e) new = ⊥
IsFinish (Some (Ended end)) old result new = (result ≡ Ok end) × (new ≡ old)
IsFinish (Some Memory) old result new = (result ≡ Err alloc_error) × (new ≡ old)

-- the item that failed, exactly where the session has ended by a mismatch
abbrev pub IsLent : Option Stopped → Progress → Option Value → Type 0
IsLent (Some (Ended end)) p rejected = IsRejected p.judge p.limits p.fed p.taken end rejected
IsLent _ p rejected = rejected ≡ None

-- So many items were taken, and so many bytes are theirs.
abbrev pub IsCount : Progress → ℕ → ℕ → Type 0
IsCount p items bytes = IsCounted p.judge p.limits p.fed p.taken items bytes

-- The item was accepted that ends with byte `used` of the piece, and begins where those before it end. The bytes fed are just the
-- items taken.
pub record IsItemFed (old : Progress) (piece : List ℕ) (used : ℕ) (item : Value) (new : Progress) : Type 0 where
  pub some : 0 < used
  pub within : used ≤ length piece
  pub offset : ℕ
  pub place : IsCount old (length old.taken) offset
  pub next : new ≡ record old { fed = old.fed ++ take used piece; taken = old.taken ++ record { offset = offset; item = item } ∷ [] }
  pub ends : Ends new.judge new.limits new.fed new.taken (Clean (length new.taken) (length new.fed))
  pub short : length new.fed ≤ last_offset

-- These unsigned integers below 24, each of one byte, were accepted, and the first one begins where the items before it end. The
-- bytes fed are just the items taken, if there are any such integers.
pub record AreSmallsFed (old : Progress) (numbers : List ℕ) (new : Progress) : Type 0 where
  pub small : All (λ n. n < 24) numbers
  pub offset : ℕ
  pub place : IsCount old (length old.taken) offset
  pub next : new ≡ record old { fed = old.fed ++ numbers; taken = old.taken ++ smalls_from offset numbers }
  pub ends : 0 < length numbers → Ends new.judge new.limits new.fed new.taken (Clean (length new.taken) (length new.fed))
  pub short : offset + length numbers ≤ last_offset

-- The item was accepted for which the tape stands, which ends with byte `used` of the piece and begins with its first byte.
pub record IsTapeFed (old : Progress) (piece : List ℕ) (used : ℕ) (tape : List Entry) (new : Progress) : Type 0 where
  pub depth : ℕ
  pub whole : IsWholeTape depth piece tape used
  pub fed : IsItemFed old piece used whole.value new

-- what `feed_one` answers of a session that has not stopped
abbrev pub IsFedOne : Progress → List ℕ → Result Step AllocError → Progress → Type 0
IsFedOne old piece (Ok step.More) new = (new ≡ record old { fed = old.fed ++ piece }) × IsOpen new
IsFedOne old piece (Ok (step.Item used item)) new = IsItemFed old piece used item new
IsFedOne old piece (Ok (step.Ended end)) new = (new ≡ record old { fed = old.fed ++ piece; stopped = Some (Ended end) }) × IsEnded new end
IsFedOne old piece (Err e) new = (new ≡ record old { fed = old.fed ++ piece; stopped = Some Memory }) × IsCutShort new

-- what `feed_one` answers
abbrev pub IsStep : Option Stopped → Progress → List ℕ → Result Step AllocError → Progress → Type 0
IsStep None old piece result new = IsFedOne old piece result new
IsStep (Some (Ended end)) old piece result new = (result ≡ Ok (step.Ended end)) × (new ≡ old)
IsStep (Some Memory) old piece result new = (result ≡ Err alloc_error) × (new ≡ old)
