use Rattle.std.proofs.Common.{◌≡◌, ◌∙◌, sym, ap, subst, Some, None, slice_get}
use Rattle.std.proofs.lemmas.Option.{slice_get_read}
use Rattle.graphs.specs.declared.cycles.search.Mark.TheVariants.{Unseen}
use Rattle.graphs.specs.Cycles.Search.{state, IsSound}
use Rattle.graphs.proofs.OfCycles.Lists.{same_some}
use Rattle.graphs.proofs.OfCycles.Ends.{enters_at_end, keeps_entered, sees_entered}
use Rattle.graphs.proofs.cycles.search.Search.visit.Goals as goal

pub run-requires-clause-sound : goal.run-requires-clause-sound
run-requires-clause-sound c =
    let nodes = c.args.graph.now.nodes in
    let edges = c.args.graph.now.edges.now in
    let mark : slice_get c.args.self.now.marks.items c.args.node ≡ Some Unseen = slice_get_read c.args.self.now.marks.items c.args.graph.now.nodes c.args.node c.index.result.now (sym c.requires.start.sound.places.all) c.requires.node c.index.ensures ∙ ap Some c.in-Unseen.is in
    subst (IsSound nodes edges None) (sym c.in_ok-enter.ensures) (enters_at_end nodes edges (state c.args.self.now) c.requires.start c.args.node mark)

pub returns-in_ok-run-clause-keeps : goal.returns-in_ok-run-clause-keeps
returns-in_ok-run-clause-keeps c =
    let nodes = c.args.graph.now.nodes in
    let edges = c.args.graph.now.edges.now in
    let mark : slice_get c.args.self.now.marks.items c.args.node ≡ Some Unseen = slice_get_read c.args.self.now.marks.items c.args.graph.now.nodes c.args.node c.index.result.now (sym c.requires.start.sound.places.all) c.requires.node c.index.ensures ∙ ap Some c.in-Unseen.is in
    λ x e. keeps_entered nodes edges (state c.args.self.now) c.requires.start c.args.node mark (state c.enter.new.self) c.in_ok-enter.ensures x (c.in_ok-run.ensures.keeps x e)

pub returns-in_ok-run-clause-seen : goal.returns-in_ok-run-clause-seen
returns-in_ok-run-clause-seen c =
    let nodes = c.args.graph.now.nodes in
    let edges = c.args.graph.now.edges.now in
    let mark : slice_get c.args.self.now.marks.items c.args.node ≡ Some Unseen = slice_get_read c.args.self.now.marks.items c.args.graph.now.nodes c.args.node c.index.result.now (sym c.requires.start.sound.places.all) c.requires.node c.index.ensures ∙ ap Some c.in-Unseen.is in
    λ e. sees_entered nodes edges (state c.args.self.now) c.requires.start c.args.node mark (state c.enter.new.self) c.in_ok-enter.ensures (c.in_ok-run.ensures.keeps c.args.node e)

pub returns-in_default : goal.returns-in_default
returns-in_default c = record {
  end = c.requires.start;
  keeps = λ x e. e;
  seen = λ e. c.in_default.not-Unseen (same_some c.index.result.now Unseen (sym (slice_get_read c.args.self.now.marks.items c.args.graph.now.nodes c.args.node c.index.result.now (sym c.requires.start.sound.places.all) c.requires.node c.index.ensures) ∙ e));
}
