use Rattle.std.proofs.Common.{◌≡◌, ◌<◌, ◌∙◌, get_or, length, refl, sym, ap, arith}
use Rattle.cddl_meaning.specs.Forms.{are_members}
use Rattle.match_tests.specs.Bits.{bits_in_first}
use Rattle.match_tests.proofs.OfBits.{no_byte, none_first, one_byte_more}
use Rattle.match_tests.proofs.bits.are_string_bits_among.Goals as goal
use Rattle.table_nodes.specs.SizeSets.{set_view}

pub loop-index-init : goal.loop-index-init
loop-index-init c = none_first (set_view c.args.members.now) c.args.bytes.now

pub returns-then-not-are_byte_bits_among : goal.returns-then-not-are_byte_bits_among
returns-then-not-are_byte_bits_among c =
    let s = c.args.bytes.now in
    let i = c.loop-index.index in
    let within : i < length s = omega arith in
    sym (no_byte (set_view c.args.members.now) s i (get_or s i 0) within refl (sym c.are_byte_bits_among.ensures ∙ c.if-not-are_byte_bits_among.true))

pub loop-index-preserved : goal.loop-index-preserved
loop-index-preserved c =
    let s = c.args.bytes.now in
    let i = c.loop-index.index in
    one_byte_more (set_view c.args.members.now) s i (get_or s i 0) refl (sym c.are_byte_bits_among.ensures ∙ c.if-not-are_byte_bits_among.false) c.loop-index.invariant

pub returns : goal.returns
returns c =
    let s = c.args.bytes.now in
    let end : c.loop-index.index ≡ length s = omega arith in
    sym (ap (λ n. are_members (bits_in_first s n) (set_view c.args.members.now)) (sym end) ∙ c.loop-index.invariant)
