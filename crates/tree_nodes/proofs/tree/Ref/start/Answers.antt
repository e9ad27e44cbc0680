use Rattle.tree_nodes.proofs.Lemmas.{views}
use Rattle.tree_nodes.proofs.tree.Ref.start.Goals as goal

pub returns-in-Name : goal.returns-in-Name
returns-in-Name c = simp (c.in-Name.is, views) c.start_of.ensures

pub returns-in-Applied : goal.returns-in-Applied
returns-in-Applied c = simp (c.in-Applied.is, views) c.start_of-in-Applied.ensures
