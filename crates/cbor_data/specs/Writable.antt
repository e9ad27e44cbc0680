-- Items that are spelled by their preferred bytes: numbers are in range, floats fit their widths, no simple value is a
-- reserved one, and each count fits its head.
use Rattle.cbor_data.specs.Value.{Value, IsInRange, AreBitsFitting, AreSimplesAssignable}
use Rattle.cbor_data.specs.Preferred.{AreCountsShort}

pub record IsWritable (x : Value) : Type 0 where
  pub in_range : IsInRange x
  pub fitting : AreBitsFitting x
  pub assignable : AreSimplesAssignable x
  pub counts : AreCountsShort x
