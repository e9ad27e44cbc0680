use Rattle.std.proofs.Common.{◌+◌, ◌<◌, ◌^◌, drop, Result, ℕ}
use Rattle.cbor_data.specs.Value.{values_place_count}
use Rattle.cbor_item.specs.Walk.{ArePlain, WalksAmong}
use Rattle.item_nodes.specs.View.{values_view, pairs_view}
use Rattle.cbor_item.specs.declared.sound.Unsound.{Unsound}
use Rattle.cbor_item.proofs.Keeping.{KnowsKeys}
use Rattle.cbor_item.proofs.duplicates.+walk.Given as goal

-- what follows from here on follows from the start
abbrev pub invariant-walk_members-loop-item : goal.invariant-walk_members-loop-item
invariant-walk_members-loop-item l = record {
  plain : ArePlain (values_view (drop l.item-index l.item-items));
  room : l.next + values_place_count (values_view (drop l.item-index l.item-items)) < 2 ^ 64;
  follows : (r : Result ℕ Unsound) → WalksAmong (values_view (drop l.item-index l.item-items)) l.next r → WalksAmong (values_view l.item-items) l.fn.place r;
}

-- and the set has the keys before
abbrev pub invariant-walk_pairs-loop-key : goal.invariant-walk_pairs-loop-key
invariant-walk_pairs-loop-key l = KnowsKeys l.keys (pairs_view (drop l.key-index l.key-items)) l.next (pairs_view l.key-items) l.fn.place
