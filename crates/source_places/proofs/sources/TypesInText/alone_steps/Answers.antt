use Rattle.std.proofs.Common.{List, ◌≤◌, length, subst, sym}
use Rattle.graphs.specs.declared.implications.Implication.{Implication}
use Rattle.source_places.specs.States.{IsAloneStep}
use Rattle.source_pieces.specs.declared.piece.PieceAt.{PieceAt}
use Rattle.source_places.proofs.Splicing.{AreStepsTo, all_steps, alone_piece, grown_by_contained, next_at, no_steps}
use Rattle.source_places.proofs.sources.TypesInText.alone_steps.Goals as goal

pub loop-piece-init : goal.loop-piece-init
loop-piece-init c =
    let x = c.args.self.now in
    subst (λ (is : List Implication). AreStepsTo x (IsAloneStep x) is 0) (sym c.new-steps.ensures.items) (no_steps x (IsAloneStep x))

pub loop-piece-preserved : goal.loop-piece-preserved
loop-piece-preserved c =
    let x = c.args.self.now in
    next_at x (IsAloneStep x) c.loop-piece.steps.items _ c.deref-piece-items.result.now c.loop-piece.piece-index _ c.deref-piece-items.ensures.value c.loop-piece-test.true (λ there. grown_by_contained (IsAloneStep x _) c.alone_step.result c.loop-piece.steps.items _ c.in_ok-push_step.ensures _ there c.alone_step.ensures.some c.alone_step.ensures.all) c.loop-piece.invariant

pub returns : goal.returns
returns c =
    let x = c.args.self.now in
    all_steps x (IsAloneStep x) (alone_piece x) c.loop-piece.steps.items c.loop-piece.piece-index (subst (λ (xs : List PieceAt). length xs ≤ c.loop-piece.piece-index) c.deref-piece-items.ensures.value c.loop-piece-test.false) c.loop-piece.invariant
