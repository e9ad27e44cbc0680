use Rattle.std.proofs.Common.{List, take}
use Rattle.tree_nodes.specs.Syntax.Syntax as S
use Rattle.cddl_language.specs.Terms.{Ref}
use Rattle.check_terms.specs.Table.{Grows}
use Rattle.source_pieces.specs.Filling.{ArePiecesFilled, IsFilling}
use Rattle.source_pieces.proofs.filling.Filling.pieces.Given as goal

-- these are the pieces so far
abbrev pub invariant-loop-piece : goal.invariant-loop-piece
invariant-loop-piece l = record {
  grows : Grows l.fn.terms l.terms;
  are : (rs : List S.Rule) (q : Ref) → IsFilling l.fn.terms rs l.self q → ArePiecesFilled rs q l.fn.terms l.terms (take l.piece-index l.pieces) l.filled.items;
}
