use Rattle.std.proofs.Common.{◌≡◌, ℕ, ◌<◌, Some, slice_get}
use Rattle.source_places.specs.States.{IsInMapFrom}
use Rattle.source_pieces.specs.declared.piece.PieceAt.{PieceAt}
use Rattle.source_places.proofs.sources.TypesInText.first_value.Given as goal

-- none of those so far is of the types
abbrev pub invariant-loop-piece : goal.invariant-loop-piece
invariant-loop-piece l = (i : ℕ) (a : PieceAt) → i < l.piece-index → slice_get l.self.pieces.items i ≡ Some a → IsInMapFrom l.self l.number l.found a → a.origin ≡ Some l.origin → a.key ≡ Some l.key → ⊥
