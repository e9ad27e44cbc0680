use Rattle.std.proofs.Common.{◌≡◌, ◌++◌, map}
use Rattle.item_nodes.specs.View.{view}
use Rattle.match_held.proofs.reading.plain_items.Given as goal

abbrev pub invariant-loop-item : goal.invariant-loop-item
invariant-loop-item l = map view l.plain.items ++ l.item-iterator.rest.items ≡ l.fn.items.items
