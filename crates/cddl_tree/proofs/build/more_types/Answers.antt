use Rattle.tree_nodes.proofs.Lemmas.{view_out-Types}
use Rattle.cddl_tree.proofs.Pushing.{views}
use Rattle.cddl_tree.proofs.build.more_types.Goals as goal

pub returns-in-Ok : goal.returns-in-Ok
returns-in-Ok c read = simp (views, c.in-Ok.ensures.items, c.into_inner-first.ensures, c.into_inner-type1.ensures, view_out-Types)
