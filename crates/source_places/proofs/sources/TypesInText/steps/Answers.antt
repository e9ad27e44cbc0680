use Rattle.std.proofs.Common.{List, ◌≤◌, length, subst, sym}
use Rattle.graphs.specs.declared.implications.Implication.{Implication}
use Rattle.source_places.specs.States.{IsStep}
use Rattle.source_pieces.specs.declared.piece.PieceAt.{PieceAt}
use Rattle.source_places.proofs.Splicing.{AreStepsTo, all_steps, next_at, no_steps, step_piece}
use Rattle.source_places.proofs.sources.TypesInText.steps.Goals as goal

pub loop-piece-init : goal.loop-piece-init
loop-piece-init c =
    let x = c.args.self.now in
    let step = IsStep x c.args.map in
    subst (λ (is : List Implication). AreStepsTo x step is 0) (sym c.new-steps.ensures.items) (no_steps x step)

pub loop-piece-preserved : goal.loop-piece-preserved
loop-piece-preserved c = next_at c.args.self.now (IsStep c.args.self.now c.args.map) c.loop-piece.steps.items _ c.deref-piece-items.result.now c.loop-piece.piece-index _ c.deref-piece-items.ensures.value c.loop-piece-test.true c.in_ok-push_steps.ensures c.loop-piece.invariant

pub returns : goal.returns
returns c =
    let x = c.args.self.now in
    all_steps x (IsStep x c.args.map) (step_piece x c.args.map) c.loop-piece.steps.items c.loop-piece.piece-index (subst (λ (xs : List PieceAt). length xs ≤ c.loop-piece.piece-index) c.deref-piece-items.ensures.value c.loop-piece-test.false) c.loop-piece.invariant
