use Rattle.std.proofs.Common.{take}
use Rattle.check_terms.specs.Table.{Grows}
use Rattle.tree_nodes.specs.View.{token_of}
use Rattle.source_pieces.specs.Origins.{AreRead}
use Rattle.source_pieces.proofs.origin.pieces_of.Given as goal

-- these are read of the nodes so far
abbrev pub invariant-loop-node : goal.invariant-loop-node
invariant-loop-node l = record {
  grows : Grows l.fn.terms l.terms;
  are : AreRead l.terms (token_of l.tree) (take l.node-index l.found) l.pieces.items;
}
