use Rattle.std.proofs.Common.{◌≡◌, ◌*◌, ◌++◌, take, drop, length}
use Rattle.hex.specs.Hex.{encode_lower}
use Rattle.tape_notation.proofs.hex_digits.put_hex_run.Given as goal

-- the digits that are put with those of the bytes that are left are all
abbrev pub invariant-loop-i : goal.invariant-loop-i
invariant-loop-i l = record {
  room : length l.digits ≡ 32;
  put : take (2 * l.i) l.digits ++ encode_lower (drop l.i l.run) ≡ encode_lower l.run;
}
