use Rattle.std.proofs.Common.{◌∙◌, sym, ap, subst, map, arith}
use Rattle.lists.proofs.Lemmas.{ok_then}
use Rattle.graphs.specs.Cycles.Links.{AreNumbers}
use Rattle.graphs.specs.Cycles.Search.{state, IsAtEnd, number}
use Rattle.graphs.proofs.OfCycles.Ends.{begins, are_numbers}
use Rattle.graphs.proofs.cycles.search.numbers_of.Goals as goal

pub loop-node-init : goal.loop-node-init
loop-node-init c = record {
  at_end = subst (IsAtEnd c.args.graph.now.nodes c.args.graph.now.edges.now) (sym c.in_ok-search.ensures) (begins c.args.graph.now.nodes c.args.graph.now.edges.now c.args.graph.now.heads.items c.args.graph.now.links.items c.requires);
  seen = λ x l. absurd (omega (arith, l));
}

pub returns : goal.returns
returns c =
    let nodes = c.args.graph.now.nodes in
    let edges = c.args.graph.now.edges.now in
    let kept = c.loop-node.invariant in
    let numbers = are_numbers nodes edges (state c.loop-node.search) kept.at_end (λ x l. kept.seen x (omega arith)) in
    ok_then c.mark_numbers.result _ _ (λ v e. subst (AreNumbers nodes edges) (sym (e ∙ ap (map number) c.deref.ensures.value)) numbers) c.mark_numbers.ensures
