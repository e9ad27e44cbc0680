use Rattle.std.proofs.Common.{◌≡◌, take}
use Rattle.item_nodes.specs.Apart.{numbers_view}
use Rattle.item_nodes.proofs.apart.numbers_of.Given as goal

abbrev pub invariant-loop-pair : goal.invariant-loop-pair
invariant-loop-pair l = l.numbers.items ≡ numbers_view (take l.pair-index l.pairs)
