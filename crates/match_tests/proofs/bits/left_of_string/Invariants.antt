use Rattle.std.proofs.Common.{◌≡◌, ◌+◌, length}
use Rattle.match_tests.specs.Bits.{bits_in_first}
use Rattle.match_tests.proofs.bits.left_of_string.Given as goal

-- what the bytes so far have taken, with what is left
abbrev pub invariant-loop-byte : goal.invariant-loop-byte
invariant-loop-byte l = length (bits_in_first l.bytes l.byte-index) + l.left ≡ l.steps
