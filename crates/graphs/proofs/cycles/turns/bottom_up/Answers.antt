use Rattle.std.proofs.Common.{sym, subst}
use Rattle.lists.proofs.Lemmas.{ok_then}
use Rattle.graphs.specs.Cycles.Graph.{IsBottomUp}
use Rattle.graphs.specs.Cycles.Turns.{AreSorted}
use Rattle.graphs.proofs.OfCycles.Taking.{sorted_within, is_bottom_up}
use Rattle.graphs.proofs.cycles.turns.bottom_up.Goals as goal

pub taken_in_turn-requires-clause-within : goal.taken_in_turn-requires-clause-within
taken_in_turn-requires-clause-within c =
    let numbers = c.in_ok-numbers.numbers.items in
    let low_first = subst (λ ns. AreSorted ns c.deref-2.result.now) c.deref.ensures.value (subst (λ xs. AreSorted c.deref.result.now xs) (sym c.deref-2.ensures.value) c.in_ok-sorted.ensures) in
    sorted_within c.in_ok-graph.graph.nodes c.in_ok-graph.graph.edges.now numbers c.deref-2.result.now c.in_ok-numbers.ensures low_first

pub returns : goal.returns
returns c =
    let nodes = c.in_ok-graph.graph.nodes in
    let edges = c.in_ok-graph.graph.edges.now in
    let numbers = c.in_ok-numbers.numbers.items in
    let sorted = c.deref-2.result.now in
    let low_first = subst (λ ns. AreSorted ns sorted) c.deref.ensures.value (subst (λ xs. AreSorted c.deref.result.now xs) (sym c.deref-2.ensures.value) c.in_ok-sorted.ensures) in
    ok_then c.taken_in_turn.result _ _ (λ v t. subst (λ n. IsBottomUp n c.args.edges.now v.items) c.in_ok-graph.ensures.nodes (subst (λ es. IsBottomUp nodes es v.items) c.in_ok-graph.ensures.edges (is_bottom_up nodes edges numbers sorted v.items c.in_ok-numbers.ensures low_first t))) c.taken_in_turn.ensures
