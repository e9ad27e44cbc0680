use Rattle.std.proofs.Common.{◌≡◌, ◌++◌, drop}
use Rattle.cbor_data.specs.Deterministic.{values_ordered}
use Rattle.cbor_data.specs.Preferred.{values_preferred}
use Rattle.cbor_data.specs.Value.{array, pairs}
use Rattle.cbor_data.proofs.Lemmas.{HasKeysApart}
use Rattle.item_nodes.specs.InOrder.{laid, lengths_of}
use Rattle.cbor_item.specs.Laying.{joined}
use Rattle.item_nodes.specs.View.{values_view, pairs_view}
use Rattle.cbor_item.specs.Walk.{ArePlain, ArePairsPlain}
use Rattle.cbor_item.proofs.deterministic.+add.Given as goal

-- with what is left to be added it will be all
abbrev pub invariant-add_members-loop-item : goal.invariant-add_members-loop-item
invariant-add_members-loop-item l = record {
  plain : ArePlain (values_view (drop l.item-index l.item-items));
  apart : HasKeysApart (array (values_view (drop l.item-index l.item-items)));
  sofar : l.out.items ++ values_preferred (values_ordered (values_view (drop l.item-index l.item-items))) ≡ l.fn.out.items ++ values_preferred (values_ordered (values_view l.item-items));
}

abbrev pub invariant-add_pairs-loop-key : goal.invariant-add_pairs-loop-key
invariant-add_pairs-loop-key l = record {
  plain : ArePairsPlain (pairs_view (drop l.key-index l.key-items));
  apart : HasKeysApart (pairs (pairs_view (drop l.key-index l.key-items)));
  sofar : l.out.items ++ joined (laid (pairs_view (drop l.key-index l.key-items))) ≡ l.fn.out.items ++ joined (laid (pairs_view l.key-items));
}

abbrev pub invariant-lay_out-loop-key : goal.invariant-lay_out-loop-key
invariant-lay_out-loop-key l = record {
  plain : ArePairsPlain (pairs_view (drop l.key-index l.key-items));
  apart : HasKeysApart (pairs (pairs_view (drop l.key-index l.key-items)));
  lengths : l.lengths.items ++ lengths_of (laid (pairs_view (drop l.key-index l.key-items))) ≡ lengths_of (laid (pairs_view l.key-items));
  sofar : l.bytes.items ++ joined (laid (pairs_view (drop l.key-index l.key-items))) ≡ l.fn.bytes.items ++ joined (laid (pairs_view l.key-items));
}
