use Rattle.std.proofs.Common.{List, subst}
use Rattle.std.proofs.lemmas.List.{take_all, take_more}
use Rattle.source_pieces.specs.Filling.{ArePiecesFilled}
use Rattle.source_pieces.specs.declared.piece.PieceAt.{PieceAt}
use Rattle.source_pieces.proofs.FilledPieces.{filling_kept, one_more_filled}
use Rattle.source_pieces.proofs.Growing.{grown}
use Rattle.source_pieces.proofs.filling.Filling.pieces.Goals as goal

pub loop-piece-preserved : goal.loop-piece-preserved
loop-piece-preserved c =
    let old = c.args.terms.now in
    let now = c.loop-piece.terms in
    let new = c.piece.new.terms in
    let before = c.loop-piece.invariant.grows in
    record {
      grows = grown old now new before c.in_ok-made.ensures.grows;
      are = λ rs q h.
          one_more_filled rs q old now new _ _ _ _ _ _ before c.in_ok-made.ensures.grows (c.loop-piece.invariant.are rs q h)
          (c.in_ok-made.ensures.filled rs q (filling_kept old now rs c.args.self.now q before h))
          (take_more c.args.pieces.now c.loop-piece.piece-index _ c.loop-piece-test.true)
          c.in_ok-push.ensures;
    }

pub returns-clause-filled : goal.returns-clause-filled
returns-clause-filled c = λ rs q h.
    subst (λ (xs : List PieceAt). ArePiecesFilled rs q c.args.terms.now c.loop-piece.terms xs c.loop-piece.filled.items)
    (take_all c.loop-piece.piece-index c.args.pieces.now c.loop-piece-test.false)
    (c.loop-piece.invariant.are rs q h)
