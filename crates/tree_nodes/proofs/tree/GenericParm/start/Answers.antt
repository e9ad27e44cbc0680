use Rattle.tree_nodes.proofs.Starting.{parm_start}
use Rattle.tree_nodes.specs.View.{token_of}
use Rattle.tree_nodes.proofs.tree.GenericParm.start.Goals as goal

pub returns : goal.returns
returns c = parm_start (token_of c.args.tree.now) c.args.self.now c.start_of.result c.start_of.ensures
