-- What is at the front of a rest.
use Rattle.std.specs.Prelude.{◌≡◌, ℕ, ◌≤◌, List, [], length, take}
use Rattle.cbor_data.specs.Faults.{Bounds, IsItem, IsFaultOf}
use Rattle.cbor_read.specs.declared.front.Front.{Front}
use Rattle.cbor_read.specs.declared.front.Front.TheVariants.{Nothing, Item, Fault}

-- What is at the front of the bytes b, which are the rest of a stream from offset o on.
abbrev pub IsFront : Bounds → ℕ → List ℕ → Front → Type 0
IsFront l o b Nothing = b ≡ []
IsFront l o b (Item n x) = (n ≤ length b) × IsItem l o x (take n b)
IsFront l o b (Fault fault) = IsFaultOf l o b fault.kind fault.at
