use Rattle.std.proofs.Common.{subst}
use Rattle.tree_nodes.specs.Syntax.Syntax as S
use Rattle.tree_nodes.specs.View.{view_operator, view_type2, token_of}
use Rattle.tree_nodes.specs.declared.tree.Type2.{Type2}
use Rattle.tree_nodes.proofs.Lemmas.{views}
use Rattle.source_pieces.specs.Spans.{EndsAt}
use Rattle.source_pieces.proofs.Ending.{behind, behind_one}
use Rattle.source_pieces.proofs.span.type1_end.Goals as goal

pub returns-in-One : goal.returns-in-One
returns-in-One c = simp (c.in-One.is, views) (subst (λ (x : Type2). EndsAt (S.flat_type2 (view_type2 (token_of c.args.tree.now) x)) c.type2_end.result) c.deref.ensures c.type2_end.ensures)

pub returns-in-Operation : goal.returns-in-Operation
returns-in-Operation c =
    let read = token_of c.args.tree.now in
    simp (c.in-Operation.is, views)
    (behind (S.flat_type2 (view_type2 read c.in-Operation.left.value))
    (behind_one (S.flat_operator (view_operator read c.in-Operation.operator))
    (subst (λ (x : Type2). EndsAt (S.flat_type2 (view_type2 read x)) c.type2_end-in-Operation.result) c.deref-in-Operation.ensures c.type2_end-in-Operation.ensures)))
