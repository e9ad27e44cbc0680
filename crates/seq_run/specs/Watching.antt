-- What is reported for a run while it goes on.
use Rattle.std.specs.Prelude.{◌≡◌, ℕ, ◌<◌, ◌≤◌, List, [], ◌∷◌, ◌++◌, length, Option}
use Rattle.std.specs.Io.KnownBytes as bytes
use Rattle.cbor_data.specs.Faults.{Bounds}
use Rattle.cbor_data.specs.Sequence.{Found}
use Rattle.seq_run.specs.Judge.{Judge}
use Rattle.seq_run.specs.declared.end.End.{End}
use Rattle.seq_run.specs.Ends.{Ends}
use Rattle.seq_run.specs.Answers.{IsUndecided}
use Rattle.seq_run.specs.Running.{Change}
use Rattle.seq_run.specs.Telling.{Telling, Tells}

-- So many bytes were read, their run has so many items, and more bytes may change their end.
pub record IsTelling (judge : Judge) (l : Bounds) (read : List ℕ) (t : Telling) : Type 0 where
  pub found : List Found
  pub end : End
  pub ends : Ends judge l read found end
  pub undecided : IsUndecided (length read) end
  pub items : t.items ≡ length found
  pub bytes : t.bytes ≡ length read

-- These bytes were read in pieces of at most 4,096, and one of these was reported after each piece.
pub data AreTellings (judge : Judge) (l : Bounds) : List ℕ → List Telling → Type 0 where
  nothing_read : AreTellings judge l [] []
  one_more : (read piece : List ℕ) → (tellings : List Telling) → (t : Telling) → AreTellings judge l read tellings → 0 < length piece → length piece ≤ 4096 → IsTelling judge l (read ++ piece) t →
      AreTellings judge l (read ++ piece) (tellings ++ t ∷ [])

-- Of what was read all was reported but for a last piece, of at most 4,096 bytes, after which nothing was.
pub record TellsByPieces (judge : Judge) (l : Bounds) (input : Change) (before after : Option (List Telling)) : Type 0 where
  pub front : List ℕ
  pub piece : List ℕ
  pub consumed : bytes.Consumes input.before input.after (front ++ piece)
  pub few : length piece ≤ 4096
  pub tellings : List Telling
  pub are : AreTellings judge l front tellings
  pub told : Tells before after tellings
