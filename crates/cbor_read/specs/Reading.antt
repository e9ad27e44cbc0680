-- What a caller sees of a reader.
use Rattle.std.specs.Prelude.{ℕ, List, Option, None}
use Rattle.cbor_data.specs.Faults.{Bounds}
use Rattle.cbor_read.specs.declared.fault.Stop.{Stop}

-- the limits, the offset of the item's first byte, the bytes used since, and why the reader has stopped, if it has
pub record Reading : Type 0 where
  pub limits : Bounds
  pub offset : ℕ
  pub fed : List ℕ
  pub stopped : Option Stop

-- a reader that has not stopped
abbrev pub open_reading : Bounds → ℕ → List ℕ → Reading
open_reading limits offset fed = record { limits = limits; offset = offset; fed = fed; stopped = None }
