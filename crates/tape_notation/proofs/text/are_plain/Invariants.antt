use Rattle.std.proofs.Common.{◌≡◌, take, true}
use Rattle.std.specs.Prelude.{flat_map}
use Rattle.cbor_data.specs.Notation.{shown_byte}
use Rattle.tape_notation.proofs.text.are_plain.Given as goal

-- the bytes before are shown as themselves, if it says so
abbrev pub invariant-loop-byte : goal.invariant-loop-byte
invariant-loop-byte l = l.plain ≡ true → flat_map shown_byte (take l.byte-index l.bytes) ≡ take l.byte-index l.bytes
