use Rattle.std.proofs.Common.{rules, ◌≡◌, length, subst, arith}
use Rattle.std.proofs.lemmas.List.Sorted.{IsNonDecreasingBy-from_sort_by_key}
use Rattle.graphs.specs.Cycles.Turns.{AreNumbered}
use Rattle.graphs.proofs.OfCycles.Taking.{are_sorted}
use Rattle.graphs.proofs.cycles.turns.by_number.Goals as goal

pub returns : goal.returns
returns c =
    let numbers = c.args.numbers.now in
    let xs = c.loop-node.sorted.items in
    let all : c.loop-node.node ≡ length numbers = omega arith in
    are_sorted numbers xs c.sort_by_key.new.self.items (subst (λ n. AreNumbered numbers n xs) all c.loop-node.invariant) c.in_ok-sort_by_key.ensures.permutation (IsNonDecreasingBy-from_sort_by_key (λ n. n.number) _ c.in_ok-sort_by_key.ensures.sorted (λ a r q k. search rules))
