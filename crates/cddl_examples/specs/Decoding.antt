-- Why bytes are not one item.
use Rattle.std.specs.Prelude.{◌≡◌, ℕ, ◌<◌, List, [], length, take}
use Rattle.cbor_data.specs.Faults.{Bounds, IsFaultOf, IsItem}
use Rattle.cbor_data.specs.Value.{Value}
use Rattle.cddl_examples.specs.declared.decoding.Undecoded.{Undecoded}
use Rattle.cddl_examples.specs.declared.decoding.Undecoded.TheVariants.{Empty, Fault, Longer, Memory}

-- where memory is refused nothing is reported
abbrev pub IsUndecoded : Bounds → List ℕ → Undecoded → Type 0
IsUndecoded l b Empty = b ≡ []
IsUndecoded l b (Fault fault) = IsFaultOf l 0 b fault.kind fault.at
IsUndecoded l b (Longer n) = (n < length b) × (x : Value) × IsItem l 0 x (take n b)
IsUndecoded l b Memory = Unit {0}
