use Rattle.std.proofs.Common.{rules, ◌≡◌, ◌++◌, ◌∷◌, [], ◌<◌, ◌+◌, sym, subst, Some, set, slice_get, slice_index_or, arith}
use Rattle.std.proofs.lemmas.Option.{slice_get-get_or, slice_get_read}
use Rattle.graphs.specs.declared.cycles.Edge.{Edge}
use Rattle.graphs.specs.Cycles.Links.{AreHeads, AreLinks}
use Rattle.graphs.proofs.OfCycles.Loops.{heads_with, links_with, heads_without, links_without}
use Rattle.graphs.proofs.cycles.graph.graph_of.Goals as goal
use Rattle.graphs.proofs.cycles.graph.graph_of.Goals.{then-edge-nodes+then-edge-nodes-2, else-edge-nodes, else-edge-nodes-via-then-edge-nodes+else-edge-nodes-2, else-edge-nodes-via-else-edge-nodes}

pub loop-number-preserved : goal.loop-number-preserved
loop-number-preserved c =
    let nodes = c.args.nodes in
    let edges = c.args.edges.now in
    let number = c.loop-number.number in
    let heads = c.loop-number.heads.items in
    let links = c.loop-number.links.items in
    let edge : Edge = slice_index_or edges number (record { from = 0; to = 0 }) in
    let there : slice_get edges number ≡ Some edge = slice_get-get_or edges number (record { from = 0; to = 0 }) (search rules) in
    let kept = c.loop-number.invariant in
    let pushed : c.push.new.self.items ≡ links ++ c.if-edge-nodes.link ∷ [] = search rules in
    elim c.if-edge-nodes.branch [
      | then-edge-nodes+then-edge-nodes-2 w ↦ (
          let written : c.if-edge-nodes.heads.items ≡ set heads edge.from (Some number) = search rules in
          let first = slice_get_read heads nodes edge.from w.index-link.result.now (sym kept.heads_are.all) w.if-edge-nodes.true w.index-link.ensures in
          let read : slice_get heads edge.from ≡ Some c.if-edge-nodes.link = cc in
          record {
            all = search rules;
            heads_are = subst (AreHeads nodes edges (number + 1)) (sym written) (heads_with nodes edges heads links number edge there kept.heads_are kept.links_are kept.all w.if-edge-nodes.true w.if-edge-nodes-2.true);
            links_are = subst (AreLinks nodes edges) (sym pushed) (links_with nodes edges heads links number edge there kept.heads_are kept.links_are kept.all c.if-edge-nodes.link read);
          })
      | else-edge-nodes w ↦ (
          let same : c.if-edge-nodes.heads.items ≡ heads = search rules in
          let out : edge.from < nodes → edge.to < nodes → ⊥ = λ l m. elim w.else-edge-nodes.branch [ else-edge-nodes-via-then-edge-nodes+else-edge-nodes-2 v ↦ absurd (omega arith) | else-edge-nodes-via-else-edge-nodes v ↦ absurd (omega arith) ] in
          record {
            all = search rules;
            heads_are = subst (AreHeads nodes edges (number + 1)) (sym same) (heads_without nodes edges heads links number edge there kept.heads_are kept.links_are kept.all out);
            links_are = subst (AreLinks nodes edges) (sym pushed) (links_without nodes edges heads links number edge there kept.heads_are kept.links_are kept.all c.if-edge-nodes.link out);
          })
    ]
