use Rattle.std.proofs.Common.{◌≡◌, true}
use Rattle.cddl_meaning.specs.Forms.{are_members}
use Rattle.match_tests.specs.Bits.{bits_of}
use Rattle.match_tests.proofs.bits.are_word_bits_among.Given as goal
use Rattle.table_nodes.specs.SizeSets.{set_view}

-- the bits so far are members
abbrev pub invariant-loop-bit : goal.invariant-loop-bit
invariant-loop-bit l = are_members (bits_of l.first l.word l.bit) (set_view l.members) ≡ true
