use Rattle.std.proofs.Common.{drop}
use Rattle.std.specs.List.{IsDistinct}
use Rattle.item_nodes.specs.Apart.{keys_view, may_be_same}
use Rattle.item_nodes.proofs.apart.are_few_apart.Given as goal

-- all keys differ if those that are left do
abbrev pub invariant-loop-i : goal.invariant-loop-i
invariant-loop-i l = IsDistinct may_be_same (keys_view (drop l.i l.pairs)) → IsDistinct may_be_same (keys_view l.pairs)
