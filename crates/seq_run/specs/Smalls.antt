-- Unsigned integers below 24, each of which is one byte, one after the other.
use Rattle.std.specs.Prelude.{◌≡◌, ◌<◌, ◌≤◌, ℕ, suc, List, [], ◌∷◌, ◌++◌, Bool, true, Some, length, drop, slice_get, slice_index}
use Rattle.cbor_data.specs.Sequence.{Found}
use Rattle.cbor_data.specs.Value.{uint}
use Rattle.cbor_read.specs.Answers.{IsSmallNext, IsSmallTaken}
use Rattle.cbor_read.specs.Reading.{Reading}

-- the integers that these bytes are, each with its offset, where the first one's is o
abbrev pub smalls_from : ℕ → List ℕ → List Found
smalls_from o [] = []
smalls_from o (n ∷ ns) = record { offset = o; item = uint n } ∷ smalls_from (suc o) ns

-- the number is marked as accepted
abbrev pub IsMarked : List Bool → ℕ → Type 0
IsMarked marks n = slice_get marks n ≡ Some true

-- A reader between two items took these integers, one after the other, of each of which P holds.
pub data AreSmallsTaken (P : ℕ → Type 0) (old : Reading) : List ℕ → Reading → Type 0 where
  none : AreSmallsTaken P old [] old
  more : {ns : List ℕ} {between new : Reading} (piece : List ℕ) (n : ℕ) → AreSmallsTaken P old ns between → P n → between.fed ≡ [] → IsSmallTaken between piece n new →
      AreSmallsTaken P old (ns ++ n ∷ []) new

-- So many bytes at the front of the piece were taken, and then comes the end of the piece, or a byte that is not marked, or one
-- for which the reader has no room.
pub record IsLongestFront (marks : List Bool) (piece : List ℕ) (count : ℕ) (new : Reading) : Type 0 where
  pub within : count ≤ length piece
  pub longest : count < length piece → IsMarked marks (slice_index piece count) → IsSmallNext new (drop count piece) → ⊥
