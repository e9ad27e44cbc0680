-- What the answers of the reader's calls say.
use Rattle.std.specs.Prelude.{◌≡◌, ◌≢◌, ℕ, ◌+◌, ◌<◌, ◌≤◌, List, [], ◌∷◌, ◌++◌, length, take, slice_index, Option, Some, None, Result, Ok, Err, alloc_error}
use Rattle.std.specs.declared.alloc.AllocError.{AllocError}
use Rattle.cbor_data.specs.Value.{Value, uint}
use Rattle.cbor_data.specs.Forms.{IsWellFormed, IsUnfinished}
use Rattle.cbor_data.specs.Faults.{BeginsWithin, IsClearBefore, IsItem, IsFaultOf, last_offset}
use Rattle.cbor_tape.specs.Tape.{IsWholeTape}
use Rattle.cbor_tape.specs.declared.entry.Entry.{Entry}
use Rattle.cbor_read.specs.Reading.{Reading}
use Rattle.cbor_read.specs.declared.fault.Fault as declared
use Rattle.cbor_data.specs.declared.FaultKind.{FaultKind}
use Rattle.cbor_data.specs.declared.FaultKind.TheVariants.{BadText, DuplicateKey}
use Rattle.cbor_read.specs.declared.fault.Stop.{Stop}
use Rattle.cbor_read.specs.declared.fault.Stop.TheVariants as stop
use Rattle.cbor_read.specs.declared.reader.Fed.{Fed}
use Rattle.cbor_read.specs.declared.reader.Fed.TheVariants.{More, Item, Fault}

-- The whole piece was used, the item goes on, and nothing is wrong with a byte in sight.
pub record IsGoingOn (old : Reading) (piece : List ℕ) (new : Reading) : Type 0 where
  pub next : new ≡ record old { fed = old.fed ++ piece }
  pub unfinished : IsUnfinished (old.fed ++ piece)
  pub shallow : BeginsWithin old.limits.depth (old.fed ++ piece)
  pub clear : IsClearBefore old.limits old.offset (old.fed ++ piece) (length (old.fed ++ piece))

-- The item x ended with byte `used` of the piece, and the next one begins after it.
pub record IsTaken (old : Reading) (piece : List ℕ) (used : ℕ) (x : Value) (new : Reading) : Type 0 where
  pub some : 0 < used
  pub within : used ≤ length piece
  pub item : IsItem old.limits old.offset x (old.fed ++ take used piece)
  pub next : new ≡ record { limits = old.limits; offset = old.offset + length (old.fed ++ take used piece); fed = []; stopped = None }

-- The unsigned integer n, which is below 24 and the first byte of the piece, was taken, and the next item begins after it.
pub record IsSmallTaken (old : Reading) (piece : List ℕ) (n : ℕ) (new : Reading) : Type 0 where
  pub small : n < 24
  pub going : old.stopped ≡ None
  pub first : take 1 piece ≡ n ∷ []
  pub taken : IsTaken old piece 1 (uint n) new

-- The next item begins with the piece, at an offset that has room for a byte, and the piece begins with an unsigned integer
-- below 24.
pub record IsSmallNext (r : Reading) (piece : List ℕ) : Type 0 where
  pub going : r.stopped ≡ None
  pub between : r.fed ≡ []
  pub placed : r.offset < last_offset
  pub some : 0 < length piece
  pub small : slice_index piece 0 < 24

-- The item for which the tape stands is the next one: it begins with the piece, and ends with its byte `used`.
pub record IsTapeNext (r : Reading) (piece : List ℕ) (used : ℕ) (tape : List Entry) : Type 0 where
  pub going : r.stopped ≡ None
  pub between : r.fed ≡ []
  pub whole : IsWholeTape r.limits.depth piece tape used
  pub item : IsItem r.limits r.offset whole.value (take used piece)

-- That item was taken, and the next one begins after it.
pub record IsTapeTaken (old : Reading) (piece : List ℕ) (used : ℕ) (tape : List Entry) (new : Reading) : Type 0 where
  pub next : IsTapeNext old piece used tape
  pub taken : IsTaken old piece used next.whole.value new

-- How far a piece is used before a fault of this kind at this place is reported: up to the fault's byte, or, where the item
-- is whole, up to its end.
abbrev pub IsUsedUpTo : Reading → List ℕ → ℕ → FaultKind → ℕ → Type 0
IsUsedUpTo old piece used BadText at = IsWellFormed (old.fed ++ take used piece)
IsUsedUpTo old piece used DuplicateKey at = IsWellFormed (old.fed ++ take used piece)
IsUsedUpTo old piece used _ at = (used < length piece) × (at ≡ old.offset + length (old.fed ++ take used piece))

-- Whatever follows, this fault is reported for the bytes; it is the first answer that says so, and the reader stops with it.
pub record IsRefused (old : Reading) (piece : List ℕ) (used : ℕ) (fault : declared.Fault) (new : Reading) : Type 0 where
  pub within : used ≤ length piece
  pub told : (more : List ℕ) → IsFaultOf old.limits old.offset ((old.fed ++ piece) ++ more) fault.kind fault.at
  pub place : IsUsedUpTo old piece used fault.kind fault.at
  pub next : new ≡ record old { fed = old.fed ++ take used piece; stopped = Some (stop.Fault fault) }

-- what `feed` answers of a reader that has not stopped
abbrev pub IsFed : Reading → List ℕ → Result Fed AllocError → Reading → Type 0
IsFed old piece (Ok More) new = IsGoingOn old piece new
IsFed old piece (Ok (Item used x)) new = IsTaken old piece used x new
IsFed old piece (Ok (Fault used fault)) new = IsRefused old piece used fault new
IsFed old piece (Err e) new = new ≡ record old { stopped = Some stop.Memory }

-- what `feed` answers of a reader that has stopped
abbrev pub IsAgain : Stop → Result Fed AllocError → Type 0
IsAgain (stop.Fault fault) result = result ≡ Ok (Fault 0 fault)
IsAgain stop.Memory result = result ≡ Err alloc_error

-- what `feed` answers
abbrev pub IsAnswer : Option Stop → Reading → List ℕ → Result Fed AllocError → Reading → Type 0
IsAnswer None old piece result new = IsFed old piece result new
IsAnswer (Some s) old piece result new = IsAgain s result × (new ≡ old)

-- what is said of a reader where the stream ends
abbrev pub IsEnd : Option Stop → Reading → Result (Unit {0}) Stop → Type 0
IsEnd (Some s) reading result = result ≡ Err s
IsEnd None reading (Ok _) = reading.fed ≡ []
IsEnd None reading (Err (stop.Fault fault)) = (reading.fed ≢ []) × IsFaultOf reading.limits reading.offset reading.fed fault.kind fault.at
IsEnd None reading (Err stop.Memory) = ⊥
