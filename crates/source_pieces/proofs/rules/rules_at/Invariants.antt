use Rattle.check_terms.specs.Table.{Grows}
use Rattle.tree_nodes.specs.View.{token_of}
use Rattle.source_pieces.proofs.Reading.{AreSoFar}
use Rattle.source_pieces.proofs.rules.rules_at.Given as goal

-- these are the rules so far
abbrev pub invariant-loop-rule : goal.invariant-loop-rule
invariant-loop-rule l = record {
  grows : Grows l.fn.terms l.terms;
  are : AreSoFar l.terms (token_of l.tree) l.rule-items l.rules.items l.rule-index;
}
