use Rattle.std.proofs.Common.{◌≡◌, map, take}
use Rattle.item_nodes.specs.Apart.{strings_view}
use Rattle.item_nodes.proofs.apart.strings_of.Given as goal

abbrev pub invariant-loop-pair : goal.invariant-loop-pair
invariant-loop-pair l = map (λ s. s.now) l.strings.items ≡ strings_view (take l.pair-index l.pairs)
