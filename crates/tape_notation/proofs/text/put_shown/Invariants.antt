use Rattle.std.proofs.Common.{◌≤◌, ◌-◌, take, length}
use Rattle.std.specs.Prelude.{flat_map}
use Rattle.cbor_data.specs.Notation.{shown_byte}
use Rattle.tape_notation.specs.Put.{IsPut}
use Rattle.tape_notation.proofs.text.put_shown.Given as goal

-- the bytes before `read` are shown
abbrev pub invariant-loop-read : goal.invariant-loop-read
invariant-loop-read l = record {
  within : l.read ≤ length l.bytes;
  put : IsPut l.fn.out l.out l.at (flat_map shown_byte (take l.read l.bytes)) l.end;
}

abbrev pub decreases-loop-read : goal.decreases-loop-read
decreases-loop-read l = length l.bytes - l.read
