use Rattle.tree_nodes.proofs.Lemmas.{view_out-Group}
use Rattle.cddl_tree.proofs.Pushing.{views}
use Rattle.cddl_tree.proofs.build.group_of.Goals as goal

pub returns-in-None : goal.returns-in-None
returns-in-None c read = simp (c.in-None.is, views, c.new.ensures.items)

pub returns-in-Ok : goal.returns-in-Ok
returns-in-Ok c read = simp (c.in-Some.is, views, c.in-Ok.ensures.items, view_out-Group)
