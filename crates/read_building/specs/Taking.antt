-- Parts of the innermost container that are whole in a piece.
use Rattle.std.specs.Prelude.{ℕ, zero, ◌≤◌, List, length, take, Bool, true, false, Option, Some}
use Rattle.read_building.specs.Building.{State}
use Rattle.read_building.specs.Builds.{IsRun}

-- the machine gets along so many of the bytes, which may be none, from s to t
pub record AreTaken (depth at : ℕ) (s : State) (bytes : List ℕ) (used : ℕ) (t : State) : Type 0 where
  pub within : used ≤ length bytes
  pub run : IsRun depth at s (take used bytes) t

-- no part comes after the awaited one
abbrev pub is_last : Option ℕ → Bool
is_last (Some zero) = true
is_last left = false
