use Rattle.std.proofs.Common.{◌≡◌, ◌++◌}
use Rattle.cbor_data.specs.Preferred.{shortest_head}
use Rattle.cbor_item.specs.Laying.{joined, seen, seen_entries}
use Rattle.cbor_item.proofs.det.append_noted.Given as goal

-- with what is left to be added it will be all
abbrev pub invariant-loop-key : goal.invariant-loop-key
invariant-loop-key l = l.out.items ++ joined (seen_entries l.key-iterator) ≡ (l.fn.out.items ++ shortest_head 5 l.fn.count) ++ joined (seen l.noted)
