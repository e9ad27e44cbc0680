use Rattle.cddl_tree.proofs.Pushing.{views}
use Rattle.cddl_tree.proofs.build.parm_of.Goals as goal

pub returns-in-Ok : goal.returns-in-Ok
returns-in-Ok c read = simp (c.in-Some.is, views, c.in-Ok.ensures.items)
