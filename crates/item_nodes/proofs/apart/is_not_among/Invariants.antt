use Rattle.std.proofs.Common.{◌≡◌, false, drop}
use Rattle.std.specs.List.{AllByRecursion}
use Rattle.item_nodes.specs.Apart.{keys_view, may_be_same}
use Rattle.item_nodes.specs.View.{view}
use Rattle.item_nodes.proofs.apart.is_not_among.Given as goal

-- the key differs from all if it does from those that are left
abbrev pub invariant-loop-pair : goal.invariant-loop-pair
invariant-loop-pair l =
    AllByRecursion (λ k. may_be_same (view l.key) k ≡ false) (keys_view (drop l.pair-index l.pairs)) → AllByRecursion (λ k. may_be_same (view l.key) k ≡ false) (keys_view l.pairs)
