use Rattle.std.proofs.Common.{◌≤◌, ◌-◌, take, length}
use Rattle.hex.specs.Hex.{encode_lower}
use Rattle.tape_notation.specs.Put.{IsPut}
use Rattle.tape_notation.proofs.hex_digits.put_hex.Given as goal

-- the digits of the bytes before `read` are put
abbrev pub invariant-loop-read : goal.invariant-loop-read
invariant-loop-read l = record {
  within : l.read ≤ length l.bytes;
  put : IsPut l.fn.out l.out l.at (encode_lower (take l.read l.bytes)) l.end;
}

abbrev pub decreases-loop-read : goal.decreases-loop-read
decreases-loop-read l = length l.bytes - l.read
