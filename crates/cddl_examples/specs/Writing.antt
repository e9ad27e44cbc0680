-- What is written, and what went out where that failed.
use Rattle.std.specs.Prelude.{◌≡◌, ℕ, ◌<◌, List, length, take}
use Rattle.std.specs.Io.KnownBytes as bytes
use Rattle.cbor_data.specs.Value.{Value, array, no_values, text, uint, value}
use Rattle.seq_run.specs.Running.{Change, HasFailed}
use Rattle.cddl_examples.specs.declared.writing.Unwritten.{Unwritten}
use Rattle.cddl_examples.specs.declared.writing.Unwritten.TheVariants.{Device, Item}

-- `[time, "sensor"]`
abbrev pub reading : ℕ → List ℕ → Value
reading time sensor = array (value (uint time) (value (text sensor) no_values))

-- The device failed, and exactly so many of the bytes went out; or the item was not made, and none did.
abbrev pub IsUnwritten : List ℕ → Change → Unwritten → Type 0
IsUnwritten whole output (Device fault) = HasFailed output × (fault.written < length whole) × bytes.Appends output.before output.after (take fault.written whole)
IsUnwritten whole output (Item why) = output.after ≡ output.before
