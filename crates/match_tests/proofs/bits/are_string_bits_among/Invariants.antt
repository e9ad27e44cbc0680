use Rattle.std.proofs.Common.{◌≡◌, true}
use Rattle.cddl_meaning.specs.Forms.{are_members}
use Rattle.match_tests.specs.Bits.{bits_in_first}
use Rattle.match_tests.proofs.bits.are_string_bits_among.Given as goal
use Rattle.table_nodes.specs.SizeSets.{set_view}

-- the bits of the bytes so far are members
abbrev pub invariant-loop-index : goal.invariant-loop-index
invariant-loop-index l = are_members (bits_in_first l.bytes l.index) (set_view l.members) ≡ true
