-- Sound items: those that a `Sound` may hold.
use Rattle.std.specs.Prelude.{ℕ, ◌<◌, ◌≤◌, ◌^◌, List, length}
use Rattle.cbor_data.specs.Value.{Value, IsInRange, AreBitsFitting, AreSimplesAssignable, depth_of}
use Rattle.cbor_data.specs.Validity.{IsValid}
use Rattle.cbor_data.specs.Forms.{Spells}

-- some spelling is shorter than 2^64 bytes, so every place of the item fits
pub record HasShortSpelling (x : Value) : Type 0 where
  pub spelling : List ℕ
  pub spells : Spells x spelling
  pub short : length spelling < 2 ^ 64

pub record IsSound (x : Value) : Type 0 where
  pub in_range : IsInRange x
  pub shallow : depth_of x ≤ 256
  pub assignable : AreSimplesAssignable x
  pub fitting : AreBitsFitting x
  pub short : HasShortSpelling x
  pub valid : IsValid x
