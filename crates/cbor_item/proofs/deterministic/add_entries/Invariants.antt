use Rattle.std.proofs.Common.{◌≡◌, ◌++◌, drop}
use Rattle.item_nodes.specs.InOrder.{seen_slices}
use Rattle.cbor_item.specs.Laying.{joined}
use Rattle.cbor_item.proofs.deterministic.add_entries.Given as goal

-- with what is left to be added it will be all
abbrev pub invariant-loop-key : goal.invariant-loop-key
invariant-loop-key l = l.out.items ++ joined (seen_slices (drop l.key-index l.key-items)) ≡ l.fn.out.items ++ joined (seen_slices l.key-items)
