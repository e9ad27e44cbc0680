use Rattle.std.proofs.Common.{◌+◌, ◌++◌, ◌<◌, ◌^◌, drop, length, List, Result, ℕ}
use Rattle.cbor_data.specs.Preferred.{shortest_head}
use Rattle.cbor_data.specs.Value.{values_place_count}
use Rattle.cbor_item.specs.Laying.{LaysAmong, seen}
use Rattle.cbor_item.specs.Walk.{ArePlain}
use Rattle.item_nodes.specs.View.{values_view, pairs_view}
use Rattle.cbor_item.specs.declared.sound.Unsound.{Unsound}
use Rattle.cbor_item.proofs.Laying.{KnowsPairs}
use Rattle.cbor_item.proofs.det.+det.Given as goal

-- what follows from here on follows from the start
abbrev pub invariant-append_members-loop-item : goal.invariant-append_members-loop-item
invariant-append_members-loop-item l = record {
  plain : ArePlain (values_view (drop l.item-index l.item-items));
  room : l.next + values_place_count (values_view (drop l.item-index l.item-items)) < 2 ^ 64;
  follows : (new : List ℕ) (r : Result ℕ Unsound) → LaysAmong (values_view (drop l.item-index l.item-items)) l.next l.out.items new r → LaysAmong (values_view l.item-items) l.fn.place (l.fn.out.items ++ shortest_head 4 (length l.item-items)) new r;
}

-- the pairs before are noted in order
abbrev pub invariant-append_pairs-loop-key : goal.invariant-append_pairs-loop-key
invariant-append_pairs-loop-key l = KnowsPairs (seen l.noted) (pairs_view (drop l.key-index l.key-items)) l.next (pairs_view l.key-items) l.fn.place
