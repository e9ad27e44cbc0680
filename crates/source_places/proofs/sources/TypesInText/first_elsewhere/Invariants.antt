use Rattle.std.proofs.Common.{◌≡◌, ℕ, ◌<◌, Some, slice_get}
use Rattle.source_places.specs.States.{IsOther}
use Rattle.source_pieces.specs.declared.piece.PieceAt.{PieceAt}
use Rattle.source_places.proofs.sources.TypesInText.first_elsewhere.Given as goal

-- none of those so far is of the type, in a rule where it may be told
abbrev pub invariant-loop-piece : goal.invariant-loop-piece
invariant-loop-piece l = (i : ℕ) (a : PieceAt) → i < l.piece-index → slice_get l.self.pieces.items i ≡ Some a → a.origin ≡ Some l.origin → IsOther l.self l.number a.rule → ⊥
