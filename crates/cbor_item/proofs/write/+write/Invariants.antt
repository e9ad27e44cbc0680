use Rattle.std.proofs.Common.{◌+◌, ◌<◌, ◌^◌, drop, length, Result, ℕ}
use Rattle.cbor_data.specs.Preferred.{preferred, values_preferred, pairs_preferred}
use Rattle.cbor_data.specs.Value.{array, pairs, AreValuesFitting, ArePairsFitting}
use Rattle.cbor_item.specs.Gone.{State, state_of, Goes}
use Rattle.item_nodes.specs.View.{values_view, pairs_view}
use Rattle.cbor_item.specs.declared.write.WriteFault.{WriteFault}
use Rattle.cbor_item.proofs.write.+write.Given as goal

-- what follows from here on follows from the start
abbrev pub invariant-write_members-loop-item : goal.invariant-write_members-loop-item
invariant-write_members-loop-item g l = record {
  fitting : AreValuesFitting (values_view (drop l.item-index l.item-items));
  room : l.after + length (values_preferred (values_view (drop l.item-index l.item-items))) < 2 ^ 128;
  follows : (end : State) (r : Result ℕ WriteFault) → Goes (state_of g.W.Write.contents l.out) end l.after (values_preferred (values_view (drop l.item-index l.item-items))) r → Goes (state_of g.W.Write.contents l.fn.out) end l.fn.before (preferred (array (values_view l.item-items))) r;
}

abbrev pub invariant-write_pairs-loop-key : goal.invariant-write_pairs-loop-key
invariant-write_pairs-loop-key g l = record {
  fitting : ArePairsFitting (pairs_view (drop l.key-index l.key-items));
  room : l.after + length (pairs_preferred (pairs_view (drop l.key-index l.key-items))) < 2 ^ 128;
  follows : (end : State) (r : Result ℕ WriteFault) → Goes (state_of g.W.Write.contents l.out) end l.after (pairs_preferred (pairs_view (drop l.key-index l.key-items))) r → Goes (state_of g.W.Write.contents l.fn.out) end l.fn.before (preferred (pairs (pairs_view l.key-items))) r;
}
