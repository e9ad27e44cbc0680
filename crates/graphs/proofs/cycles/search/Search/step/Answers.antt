use Rattle.std.proofs.Common.{rules, ◌≡◌, ◌∙◌, ◌<◌, ap, refl, Some, None, length, slice_get, slice_index_or, arith}
use Rattle.std.proofs.lemmas.Option.{slice_get_read}
use Rattle.std.proofs.lemmas.List.{get_or_default}
use Rattle.lists.proofs.Lemmas.{ok_then}
use Rattle.graphs.specs.Cycles.Search.{state, met, target, advanced}
use Rattle.graphs.proofs.OfCycles.Moves.{place_in, head_in, edge_in, target_in, some_node, step_is}
use Rattle.graphs.proofs.cycles.search.Search.step.Goals as goal

pub index-node-requires : goal.index-node-requires
index-node-requires c =
    let l = place_in c.args.graph.now.nodes c.args.graph.now.edges.now c.args.graph.now.links.items (state c.args.self.now) c.args.position c.requires.top c.requires.sound c.requires.graph.links_are c.requires.graph.all in search rules

pub index-requires : goal.index-requires
index-requires c =
    let place : slice_get c.args.self.now.opened.items c.args.position ≡ Some c.index-node.result.now = slice_get_read c.args.self.now.opened.items (length c.args.self.now.opened.items) c.args.position c.index-node.result.now refl (place_in c.args.graph.now.nodes c.args.graph.now.edges.now c.args.graph.now.links.items (state c.args.self.now) c.args.position c.requires.top c.requires.sound c.requires.graph.links_are c.requires.graph.all) c.index-node.ensures in
    let l = head_in c.args.graph.now.nodes c.args.graph.now.edges.now c.args.graph.now.links.items (state c.args.self.now) c.args.position c.requires.top c.requires.sound c.requires.graph.links_are c.requires.graph.all c.index-node.result.now place in search rules

pub index-requires-in-Some : goal.index-requires-in-Some
index-requires-in-Some c =
    let place : slice_get c.args.self.now.opened.items c.args.position ≡ Some c.index-node.result.now = slice_get_read c.args.self.now.opened.items (length c.args.self.now.opened.items) c.args.position c.index-node.result.now refl (place_in c.args.graph.now.nodes c.args.graph.now.edges.now c.args.graph.now.links.items (state c.args.self.now) c.args.position c.requires.top c.requires.sound c.requires.graph.links_are c.requires.graph.all) c.index-node.ensures in
    let head : slice_get c.args.self.now.heads.items c.index-node.result.now ≡ Some c.index.result.now = slice_get_read c.args.self.now.heads.items (length c.args.self.now.heads.items) c.index-node.result.now c.index.result.now refl (head_in c.args.graph.now.nodes c.args.graph.now.edges.now c.args.graph.now.links.items (state c.args.self.now) c.args.position c.requires.top c.requires.sound c.requires.graph.links_are c.requires.graph.all c.index-node.result.now place) c.index.ensures in
    let some : slice_get c.args.self.now.heads.items c.index-node.result.now ≡ Some (Some c.in-Some.edge) = head ∙ ap Some c.in-Some.is in
    let within : c.in-Some.edge < length c.args.graph.now.edges.now = edge_in c.args.graph.now.nodes c.args.graph.now.edges.now c.args.graph.now.links.items (state c.args.self.now) c.args.position c.requires.top c.requires.sound c.requires.graph.links_are c.requires.graph.all c.index-node.result.now c.in-Some.edge some in
    let all = c.requires.graph.all in search rules

pub index_mut-requires : goal.index_mut-requires
index_mut-requires c =
    let place : slice_get c.args.self.now.opened.items c.args.position ≡ Some c.index-node.result.now = slice_get_read c.args.self.now.opened.items (length c.args.self.now.opened.items) c.args.position c.index-node.result.now refl (place_in c.args.graph.now.nodes c.args.graph.now.edges.now c.args.graph.now.links.items (state c.args.self.now) c.args.position c.requires.top c.requires.sound c.requires.graph.links_are c.requires.graph.all) c.index-node.ensures in
    let l = head_in c.args.graph.now.nodes c.args.graph.now.edges.now c.args.graph.now.links.items (state c.args.self.now) c.args.position c.requires.top c.requires.sound c.requires.graph.links_are c.requires.graph.all c.index-node.result.now place in search rules

pub offset_bounds-graph-edge : goal.offset_bounds-graph-edge
offset_bounds-graph-edge c =
    let place : slice_get c.args.self.now.opened.items c.args.position ≡ Some c.index-node.result.now = slice_get_read c.args.self.now.opened.items (length c.args.self.now.opened.items) c.args.position c.index-node.result.now refl (place_in c.args.graph.now.nodes c.args.graph.now.edges.now c.args.graph.now.links.items (state c.args.self.now) c.args.position c.requires.top c.requires.sound c.requires.graph.links_are c.requires.graph.all) c.index-node.ensures in
    let head : slice_get c.args.self.now.heads.items c.index-node.result.now ≡ Some c.index.result.now = slice_get_read c.args.self.now.heads.items (length c.args.self.now.heads.items) c.index-node.result.now c.index.result.now refl (head_in c.args.graph.now.nodes c.args.graph.now.edges.now c.args.graph.now.links.items (state c.args.self.now) c.args.position c.requires.top c.requires.sound c.requires.graph.links_are c.requires.graph.all c.index-node.result.now place) c.index.ensures in
    let some : slice_get c.args.self.now.heads.items c.index-node.result.now ≡ Some (Some c.in-Some.edge) = head ∙ ap Some c.in-Some.is in
    let within : c.in-Some.edge < length c.args.graph.now.edges.now = edge_in c.args.graph.now.nodes c.args.graph.now.edges.now c.args.graph.now.links.items (state c.args.self.now) c.args.position c.requires.top c.requires.sound c.requires.graph.links_are c.requires.graph.all c.index-node.result.now c.in-Some.edge some in
    search rules

pub bounds-graph-edge : goal.bounds-graph-edge
bounds-graph-edge c =
    let place : slice_get c.args.self.now.opened.items c.args.position ≡ Some c.index-node.result.now = slice_get_read c.args.self.now.opened.items (length c.args.self.now.opened.items) c.args.position c.index-node.result.now refl (place_in c.args.graph.now.nodes c.args.graph.now.edges.now c.args.graph.now.links.items (state c.args.self.now) c.args.position c.requires.top c.requires.sound c.requires.graph.links_are c.requires.graph.all) c.index-node.ensures in
    let head : slice_get c.args.self.now.heads.items c.index-node.result.now ≡ Some c.index.result.now = slice_get_read c.args.self.now.heads.items (length c.args.self.now.heads.items) c.index-node.result.now c.index.result.now refl (head_in c.args.graph.now.nodes c.args.graph.now.edges.now c.args.graph.now.links.items (state c.args.self.now) c.args.position c.requires.top c.requires.sound c.requires.graph.links_are c.requires.graph.all c.index-node.result.now place) c.index.ensures in
    let some : slice_get c.args.self.now.heads.items c.index-node.result.now ≡ Some (Some c.in-Some.edge) = head ∙ ap Some c.in-Some.is in
    let within : c.in-Some.edge < length c.args.graph.now.edges.now = edge_in c.args.graph.now.nodes c.args.graph.now.edges.now c.args.graph.now.links.items (state c.args.self.now) c.args.position c.requires.top c.requires.sound c.requires.graph.links_are c.requires.graph.all c.index-node.result.now c.in-Some.edge some in
    within

pub meet-requires : goal.meet-requires
meet-requires c =
    let place : slice_get c.args.self.now.opened.items c.args.position ≡ Some c.index-node.result.now = slice_get_read c.args.self.now.opened.items (length c.args.self.now.opened.items) c.args.position c.index-node.result.now refl (place_in c.args.graph.now.nodes c.args.graph.now.edges.now c.args.graph.now.links.items (state c.args.self.now) c.args.position c.requires.top c.requires.sound c.requires.graph.links_are c.requires.graph.all) c.index-node.ensures in
    let head : slice_get c.args.self.now.heads.items c.index-node.result.now ≡ Some c.index.result.now = slice_get_read c.args.self.now.heads.items (length c.args.self.now.heads.items) c.index-node.result.now c.index.result.now refl (head_in c.args.graph.now.nodes c.args.graph.now.edges.now c.args.graph.now.links.items (state c.args.self.now) c.args.position c.requires.top c.requires.sound c.requires.graph.links_are c.requires.graph.all c.index-node.result.now place) c.index.ensures in
    let some : slice_get c.args.self.now.heads.items c.index-node.result.now ≡ Some (Some c.in-Some.edge) = head ∙ ap Some c.in-Some.is in
    target_in c.args.graph.now.nodes c.args.graph.now.edges.now c.args.graph.now.links.items (state c.args.self.now) c.args.position c.requires.top c.requires.sound c.requires.graph.links_are c.requires.graph.all c.index-node.result.now c.in-Some.edge some

pub leave-requires-clause-fits : goal.leave-requires-clause-fits
leave-requires-clause-fits c =
    let few = some_node c.args.graph.now.nodes c.args.graph.now.edges.now c.args.graph.now.links.items (state c.args.self.now) c.args.position c.requires.top c.requires.sound c.requires.graph.links_are c.requires.graph.all in let all = c.requires.sound.places.all in omega (arith, few, all)

pub returns-in-Some : goal.returns-in-Some
returns-in-Some c =
    let place : slice_get c.args.self.now.opened.items c.args.position ≡ Some c.index-node.result.now = slice_get_read c.args.self.now.opened.items (length c.args.self.now.opened.items) c.args.position c.index-node.result.now refl (place_in c.args.graph.now.nodes c.args.graph.now.edges.now c.args.graph.now.links.items (state c.args.self.now) c.args.position c.requires.top c.requires.sound c.requires.graph.links_are c.requires.graph.all) c.index-node.ensures in
    let head : slice_get c.args.self.now.heads.items c.index-node.result.now ≡ Some c.index.result.now = slice_get_read c.args.self.now.heads.items (length c.args.self.now.heads.items) c.index-node.result.now c.index.result.now refl (head_in c.args.graph.now.nodes c.args.graph.now.edges.now c.args.graph.now.links.items (state c.args.self.now) c.args.position c.requires.top c.requires.sound c.requires.graph.links_are c.requires.graph.all c.index-node.result.now place) c.index.ensures in
    let some : slice_get c.args.self.now.heads.items c.index-node.result.now ≡ Some (Some c.in-Some.edge) = head ∙ ap Some c.in-Some.is in
    let within : c.in-Some.edge < length c.args.graph.now.edges.now = edge_in c.args.graph.now.nodes c.args.graph.now.edges.now c.args.graph.now.links.items (state c.args.self.now) c.args.position c.requires.top c.requires.sound c.requires.graph.links_are c.requires.graph.all c.index-node.result.now c.in-Some.edge some in
    let all = c.requires.graph.all in
    let linked : c.in-Some.edge < length c.args.graph.now.links.items = omega (arith, within, all) in
    let read : c.index-in-Some.result.now ≡ slice_index_or c.args.graph.now.links.items c.in-Some.edge None = c.index-in-Some.ensures ∙ get_or_default c.args.graph.now.links.items c.in-Some.edge c.index-in-Some.result.now None linked in
    let edges = c.args.graph.now.edges.now in
    let node = c.index-node.result.now in
    let step = step_is edges c.args.graph.now.links.items (state c.args.self.now) c.args.position node (Some c.in-Some.edge) place some in
    ok_then c.meet.result _ _ (λ u e. e ∙ (ap (λ o. met (target edges c.in-Some.edge) (advanced node o (state c.args.self.now))) read ∙ step)) c.meet.ensures

pub returns-in-None : goal.returns-in-None
returns-in-None c =
    let place : slice_get c.args.self.now.opened.items c.args.position ≡ Some c.index-node.result.now = slice_get_read c.args.self.now.opened.items (length c.args.self.now.opened.items) c.args.position c.index-node.result.now refl (place_in c.args.graph.now.nodes c.args.graph.now.edges.now c.args.graph.now.links.items (state c.args.self.now) c.args.position c.requires.top c.requires.sound c.requires.graph.links_are c.requires.graph.all) c.index-node.ensures in
    let head : slice_get c.args.self.now.heads.items c.index-node.result.now ≡ Some c.index.result.now = slice_get_read c.args.self.now.heads.items (length c.args.self.now.heads.items) c.index-node.result.now c.index.result.now refl (head_in c.args.graph.now.nodes c.args.graph.now.edges.now c.args.graph.now.links.items (state c.args.self.now) c.args.position c.requires.top c.requires.sound c.requires.graph.links_are c.requires.graph.all c.index-node.result.now place) c.index.ensures in
    let none : slice_get c.args.self.now.heads.items c.index-node.result.now ≡ Some None = head ∙ ap Some c.in-None.is in
    c.leave.ensures ∙ step_is c.args.graph.now.edges.now c.args.graph.now.links.items (state c.args.self.now) c.args.position c.index-node.result.now None place none
