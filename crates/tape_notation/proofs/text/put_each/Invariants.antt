use Rattle.std.proofs.Common.{take}
use Rattle.std.specs.Prelude.{flat_map}
use Rattle.cbor_data.specs.Notation.{shown_byte}
use Rattle.tape_notation.specs.Put.{IsPut}
use Rattle.tape_notation.proofs.text.put_each.Given as goal

-- the bytes before are shown
abbrev pub invariant-loop-i : goal.invariant-loop-i
invariant-loop-i l = IsPut l.fn.out l.out l.at (flat_map shown_byte (take l.i l.bytes)) l.end
