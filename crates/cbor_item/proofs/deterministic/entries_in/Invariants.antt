use Rattle.std.proofs.Common.{◌≡◌, ◌≤◌, ◌++◌, length, drop}
use Rattle.item_nodes.specs.InOrder.{total, cut, seen_slices}
use Rattle.cbor_item.proofs.deterministic.entries_in.Given as goal

-- with what the rest has it will be all
abbrev pub invariant-loop-key : goal.invariant-loop-key
invariant-loop-key l = record {
  room : total (drop l.key-index l.key-items) ≤ length l.rest;
  sofar : seen_slices l.entries.items ++ cut (drop l.key-index l.key-items) l.rest ≡ cut l.key-items l.bytes;
}
