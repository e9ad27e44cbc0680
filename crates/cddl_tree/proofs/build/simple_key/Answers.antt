use Rattle.std.proofs.Common.{◌∙◌, ap, sym}
use Rattle.tree_nodes.specs.Syntax.Syntax as S
use Rattle.tree_nodes.specs.declared.tree.Type2.{Type2}
use Rattle.tree_nodes.specs.View.{view_type1, view_type2}
use Rattle.tree_nodes.proofs.Lemmas.{view-One}
use Rattle.cddl_tree.proofs.Pushing.{views}
use Rattle.cddl_tree.proofs.Contents.{along_key}
use Rattle.cddl_tree.proofs.build.simple_key.Goals as goal

pub returns-in-One : goal.returns-in-One
returns-in-One c read = along_key read _ _ _ (read c.args.colon) (ap (view_type1 read) c.in-One.is ∙ view-One read _ ∙ ap (λ (x : Type2). S.one (view_type2 read x)) (sym c.into_inner.ensures)) (c.operand_key.ensures read)

pub returns-in-Operation : goal.returns-in-Operation
returns-in-Operation c read p oc = simp (c.in-Operation.is, views)
