use Rattle.std.proofs.Common.{rules, ◌≡◌, ◌-◌, sym, subst, Some, length, slice_get}
use Rattle.graphs.specs.Cycles.Search.{state}
use Rattle.graphs.proofs.OfCycles.Moves.{IsNext, steps}
use Rattle.graphs.proofs.cycles.search.Search.run.Goals as goal

after : (c : goal.In_ok-step) → IsNext c.args.graph.now.nodes c.args.graph.now.edges.now (state c.loop-position.self) (state c.step.new.self)
after c =
    let graph = c.args.graph.now in
    let top : slice_get c.loop-position.self.path.items (length c.loop-position.self.path.items - 1) ≡ Some c.in-Some.position = search rules in
    subst (IsNext graph.nodes graph.edges.now (state c.loop-position.self)) (sym c.in_ok-step.ensures) (steps graph.nodes graph.edges.now graph.links.items (state c.loop-position.self) c.in-Some.position top c.loop-position.invariant.sound c.requires.graph.links_are c.requires.graph.all)

pub loop-position-smaller : goal.loop-position-smaller
loop-position-smaller c = (after c).less

pub loop-position-preserved : goal.loop-position-preserved
loop-position-preserved c = record {
  sound = (after c).sound;
  keeps = λ x e. c.loop-position.invariant.keeps x ((after c).keeps x e);
}
