use Rattle.std.proofs.Common.{subst}
use Rattle.tree_nodes.specs.Syntax.Syntax as S
use Rattle.tree_nodes.specs.View.{view_type2, token_of, StartsAt}
use Rattle.tree_nodes.specs.declared.tree.Type2.{Type2}
use Rattle.tree_nodes.proofs.Starting.{operation_start}
use Rattle.tree_nodes.proofs.Lemmas.{views}
use Rattle.tree_nodes.proofs.tree.Type1.start.Goals as goal

pub returns-in-One : goal.returns-in-One
returns-in-One c = simp (c.in-One.is, views) (subst (λ (x : Type2). StartsAt (S.flat_type2 (view_type2 (token_of c.args.tree.now) x)) c.start.result) c.deref.ensures c.start.ensures)

pub returns-in-Operation : goal.returns-in-Operation
returns-in-Operation c = simp (c.in-Operation.is, views) (operation_start _ _ _ _ (subst (λ (x : Type2). StartsAt (S.flat_type2 (view_type2 (token_of c.args.tree.now) x)) c.start-in-Operation.result) c.deref-in-Operation.ensures c.start-in-Operation.ensures))
