-- What bytes begin with that are to be items one after the other.
use Rattle.std.specs.Prelude.{◌≡◌, ℕ, ◌<◌, ◌≤◌, List, ◌++◌, length, take, Option, Some, None}
use Rattle.cbor_data.specs.Value.{Value}
use Rattle.cbor_data.specs.Embedded.{Embeds}

-- no item's bytes are at their front
abbrev pub BeginsNone : List ℕ → Type 0
BeginsNone b = (x : Value) (front back : List ℕ) → b ≡ front ++ back → Embeds front x → ⊥

-- so many bytes, one at least, are the first item's
pub record IsFirstItem (b : List ℕ) (n : ℕ) (x : Value) : Type 0 where
  pub some : 0 < n
  pub within : n ≤ length b
  pub item : Embeds (take n b) x

-- the first item and how many bytes it has, or none
abbrev pub IsFirst : List ℕ → Option (ℕ × Value) → Type 0
IsFirst b (Some first) = IsFirstItem b first.0 first.1
IsFirst b None = BeginsNone b
