use Rattle.std.proofs.Common.{sym, ◌∙◌}
use Rattle.match_tests.proofs.OfBits.{no_bit, not_all, one_bit_more}
use Rattle.match_tests.proofs.bits.are_word_bits_among.Goals as goal
use Rattle.table_nodes.specs.SizeSets.{set_view}

pub loop-bit-init : goal.loop-bit-init
loop-bit-init c = no_bit (set_view c.args.members.now) c.args.first c.args.word

pub returns-then-not-is_bit_among : goal.returns-then-not-is_bit_among
returns-then-not-is_bit_among c = sym (not_all (set_view c.args.members.now) c.args.first c.args.word c.loop-bit.bit c.args.width c.loop-bit-test.true (sym c.is_bit_among.ensures ∙ c.if-not-is_bit_among.true))

pub loop-bit-preserved : goal.loop-bit-preserved
loop-bit-preserved c = one_bit_more (set_view c.args.members.now) c.args.first c.args.word c.loop-bit.bit (sym c.is_bit_among.ensures ∙ c.if-not-is_bit_among.false) c.loop-bit.invariant
