use Rattle.item_nodes.proofs.Lemmas.{view-Array}
use Rattle.cddl_meaning.specs.Held.{item}
use Rattle.table_nodes.specs.Nodes.{content_view}
use Rattle.match_held.proofs.Strings.{holds_list, holds_none, not_held}
use Rattle.match_held.proofs.reading.held_in.Goals as goal

pub returns-in_default : goal.returns-in_default
returns-in_default c = rw c.in-OneItem.is (not_held c.args.bytes.now (rw c.in_default.is at c.in_ok-item-in-OneItem.ensures))

pub returns-in-Some : goal.returns-in-Some
returns-in-Some c = rw (c.in-OneItem.is, c.into_item.ensures.same) (item (rw c.in-Some.is at c.in_ok-item-in-OneItem.ensures))

pub returns-in_default-2 : goal.returns-in_default-2
returns-in_default-2 c = holds_none (content_view c.args.content) c.args.bytes.now (rw c.in_default-2.is at c.in_ok-items-in-Sequence.ensures.none)

pub returns-in_ok-plain_items-in-Sequence : goal.returns-in_ok-plain_items-in-Sequence
returns-in_ok-plain_items-in-Sequence c = rw (c.in-Sequence.is, view-Array c.in_ok-plain_items-in-Sequence.field-0) (holds_list c.args.bytes.now c.in-Some-2.items.items _ c.in_ok-plain_items-in-Sequence.ensures (rw c.in-Some-2.is at c.in_ok-items-in-Sequence.ensures.some))
