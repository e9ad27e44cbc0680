use Rattle.cddl_tree.proofs.Pushing.{views}
use Rattle.cddl_tree.proofs.build.name_key.Goals as goal

pub returns-in-Name : goal.returns-in-Name
returns-in-Name c read p oc = simp (c.in-Name.is, views)

pub returns-in-Applied : goal.returns-in-Applied
returns-in-Applied c read p oc = simp (c.in-Applied.is, views)
