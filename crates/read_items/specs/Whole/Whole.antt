-- What is read of the item at the front of bytes.
use Rattle.std.specs.Prelude.{ℕ, ◌<◌, ◌≤◌, List, length, take}
use Rattle.cbor_data.specs.Value.{Value, depth_of}
use Rattle.cbor_data.specs.Forms.{Spells}

-- the first n bytes of b, one at least, are a spelling of the item x, which is no deeper than this
pub record IsWholeItem (depth : ℕ) (b : List ℕ) (x : Value) (n : ℕ) : Type 0 where
  pub some : 0 < n
  pub within : n ≤ length b
  pub spells : Spells x (take n b)
  pub shallow : depth_of x ≤ depth
