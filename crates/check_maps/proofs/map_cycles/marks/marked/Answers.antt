use Rattle.std.proofs.Common.{ap, subst, ◌∙◌}
use Rattle.std.proofs.lemmas.Result.{IfOk-weaker}
use Rattle.graphs.specs.Cycles.Graph.{AreOnCycles, AreRanks, IsOrder}
use Rattle.check_maps.specs.MapCycles.Edges.{flags_below, nodes}
use Rattle.check_maps.proofs.OfMapCycles.Ways.{cycles_marked, ranks_marked}
use Rattle.check_maps.proofs.map_cycles.marks.marked.Goals as goal

pub returns-in-Ranks : goal.returns-in-Ranks
returns-in-Ranks c =
    let l = c.args.layout in
    let es = c.args.edges.now in
    let ranks : AreRanks (nodes l) es c.in-Ranks.field-0.items = subst (λ n. AreRanks n es c.in-Ranks.field-0.items) c.nodes.ensures (subst (IsOrder c.nodes.result es) c.in-Ranks.is c.in_ok-order_of.ensures) in
    IfOk-weaker c.flags_of.result _ _ (λ v e. ranks_marked l es v.items (c.ranks_or_cycles.ensures (nodes l) es c.in-Ranks.field-0.items ranks) e) c.flags_of.ensures

pub returns : goal.returns
returns c =
    let l = c.args.layout in
    let es = c.args.edges.now in
    let marks : AreOnCycles (nodes l) es c.in-Cycles.marks.items = subst (λ n. AreOnCycles n es c.in-Cycles.marks.items) c.nodes.ensures (subst (IsOrder c.nodes.result es) c.in-Cycles.is c.in_ok-order_of.ensures) in
    IfOk-weaker c.flags_of-in-Cycles.result _ _ (λ v e. cycles_marked l es c.in-Cycles.marks.items v.items marks (e ∙ ap (λ ms. flags_below l ms l.entries) c.deref.ensures.value)) c.flags_of-in-Cycles.ensures
