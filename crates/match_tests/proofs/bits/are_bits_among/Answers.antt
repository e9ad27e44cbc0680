use Rattle.std.proofs.Common.{◌∙◌, ap}
use Rattle.item_nodes.specs.View.{view}
use Rattle.cbor_data.specs.Value.{bytes, uint}
use Rattle.cddl_meaning.specs.Forms.{are_bits_among}
use Rattle.match_tests.proofs.OfBits.{same_bits}
use Rattle.match_tests.proofs.bits.are_bits_among.Goals as goal
use Rattle.table_nodes.specs.SizeSets.{set_view}

pub returns-in-Item : goal.returns-in-Item
returns-in-Item c = rw c.in-Item.is (c.are_item_bits_among.ensures ∙ ap (are_bits_among (set_view c.args.members.now)) (same_bits (view c.in-Item.item.now)))

pub returns-in-Number : goal.returns-in-Number
returns-in-Number c = rw c.in-Number.is (c.are_word_bits_among.ensures ∙ ap (are_bits_among (set_view c.args.members.now)) (same_bits (uint c.in-Number.number)))

pub returns-in-Bytes : goal.returns-in-Bytes
returns-in-Bytes c = rw c.in-Bytes.is (c.are_string_bits_among.ensures ∙ ap (are_bits_among (set_view c.args.members.now)) (same_bits (bytes c.in-Bytes.bytes.now)))
