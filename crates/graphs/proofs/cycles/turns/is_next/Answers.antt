use Rattle.std.proofs.Common.{rules, ◌≡◌, ◌<◌, true, false, inr, length, slice_index_or, sym, subst}
use Rattle.std.proofs.lemmas.Option.{slice_get_read, get_or_from_slice_get}
use Rattle.lists.proofs.Lemmas.{within}
use Rattle.graphs.specs.declared.cycles.Edge.{Edge}
use Rattle.graphs.specs.Cycles.Links.{IsLast}
use Rattle.graphs.specs.Cycles.Turns.{left_at_most}
use Rattle.graphs.proofs.OfCycles.Following.{flag_on, flag_off, begins_below, fewer_left, goes_below, all_below, is_held}
use Rattle.graphs.proofs.cycles.turns.is_next.Goals as goal

pub loop-next-init : goal.loop-next-init
loop-next-init c =
    let nodes = c.args.graph.now.nodes in
    let edges = c.args.graph.now.edges.now in
    let heads = c.requires.graph.heads_are in
    let o = c.index-next.result.now in
    let last : IsLast nodes edges c.args.node (length edges) o = heads.each c.args.node o (slice_get_read c.args.graph.now.heads.items nodes c.args.node o (sym heads.all) c.requires.node c.index-next.ensures) in
    begins_below nodes edges c.args.placed.now c.args.node o (flag_off c.args.placed.now c.args.node c.if-placed-node.false) last

pub offset_bounds-graph-edge : goal.offset_bounds-graph-edge
offset_bounds-graph-edge c =
    let j = c.loop-next.invariant.there c.in-Some.edge c.in-Some.is in
    let l : c.in-Some.edge < length c.args.graph.now.edges.now = within c.args.graph.now.edges.now c.in-Some.edge _ j.1.there in
    search rules

pub bounds-graph-edge : goal.bounds-graph-edge
bounds-graph-edge c =
    let j = c.loop-next.invariant.there c.in-Some.edge c.in-Some.is in
    within c.args.graph.now.edges.now c.in-Some.edge _ j.1.there

pub bounds-placed-graph : goal.bounds-placed-graph
bounds-placed-graph c =
    let j = c.loop-next.invariant.there c.in-Some.edge c.in-Some.is in
    let is = get_or_from_slice_get c.args.graph.now.edges.now c.in-Some.edge _ (record { from = 0; to = 0 }) j.1.there in
    subst (λ (d : Edge). d.to < length c.args.placed.now) (sym is) (subst (λ n. j.0 < n) (sym c.requires.placed) j.1.ends)

pub returns-then-not-placed-graph : goal.returns-then-not-placed-graph
returns-then-not-placed-graph c =
    let j = c.loop-next.invariant.there c.in-Some.edge c.in-Some.is in
    let is = get_or_from_slice_get c.args.graph.now.edges.now c.in-Some.edge _ (record { from = 0; to = 0 }) j.1.there in
    inr (is_held c.args.graph.now.nodes c.args.graph.now.edges.now c.args.placed.now c.args.node c.in-Some.edge j.0 j.1 (flag_off c.args.placed.now j.0 (subst (λ (d : Edge). slice_index_or c.args.placed.now d.to false ≡ false) is c.if-not-placed-graph.true)))

pub index-next-requires-in-Some : goal.index-next-requires-in-Some
index-next-requires-in-Some c =
    let j = c.loop-next.invariant.there c.in-Some.edge c.in-Some.is in
    let l : c.in-Some.edge < length c.args.graph.now.edges.now = within c.args.graph.now.edges.now c.in-Some.edge _ j.1.there in
    let all = c.requires.graph.all in
    search rules

next_last : (c : goal.After-next-in-Some-1) → IsLast c.args.graph.now.nodes c.args.graph.now.edges.now c.args.node c.in-Some.edge c.index-next-in-Some.result.now
next_last c =
    let edges = c.args.graph.now.edges.now in
    let e = c.in-Some.edge in
    let o = c.index-next-in-Some.result.now in
    let j = c.loop-next.invariant.there e c.in-Some.is in
    c.requires.graph.links_are.each e c.args.node j.0 o j.1 (slice_get_read c.args.graph.now.links.items (length edges) e o (sym c.requires.graph.all) (within edges e _ j.1.there) c.index-next-in-Some.ensures)

pub loop-next-smaller : goal.loop-next-smaller
loop-next-smaller c =
    let o = c.index-next-in-Some.result.now in
    subst (λ u. left_at_most o < left_at_most u) (sym c.in-Some.is) (fewer_left c.args.graph.now.nodes c.args.graph.now.edges.now c.args.placed.now c.args.node o c.in-Some.edge (next_last c))

pub loop-next-preserved : goal.loop-next-preserved
loop-next-preserved c =
    let nodes = c.args.graph.now.nodes in
    let edges = c.args.graph.now.edges.now in
    let j = c.loop-next.invariant.there c.in-Some.edge c.in-Some.is in
    let is = get_or_from_slice_get edges c.in-Some.edge _ (record { from = 0; to = 0 }) j.1.there in
    goes_below nodes edges c.args.placed.now c.args.node c.index-next-in-Some.result.now c.loop-next.next c.in-Some.edge j.0 c.in-Some.is c.loop-next.invariant (next_last c) j.1 (flag_on c.args.placed.now j.0 (subst (λ n. j.0 < n) (sym c.requires.placed) j.1.ends) (subst (λ (d : Edge). slice_index_or c.args.placed.now d.to false ≡ true) is c.if-not-placed-graph.false))

pub returns : goal.returns
returns c = all_below c.args.graph.now.nodes c.args.graph.now.edges.now c.args.placed.now c.args.node c.loop-next.next (search rules) c.loop-next.invariant
