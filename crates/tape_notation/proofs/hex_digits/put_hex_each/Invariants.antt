use Rattle.std.proofs.Common.{take}
use Rattle.hex.specs.Hex.{encode_lower}
use Rattle.tape_notation.specs.Put.{IsPut}
use Rattle.tape_notation.proofs.hex_digits.put_hex_each.Given as goal

-- the digits of the bytes before are put
abbrev pub invariant-loop-i : goal.invariant-loop-i
invariant-loop-i l = IsPut l.fn.out l.out l.at (encode_lower (take l.i l.bytes)) l.end
