use Rattle.item_nodes.specs.View.{view}
use Rattle.cddl_match.proofs.ByMajor.{table_tells}
use Rattle.cddl_match.proofs.known.told_of.Goals as goal

pub returns : goal.returns
returns c = λ t e. table_tells c.args.table.now c.args.node (view c.args.item.now) c.major_of.result c.major_of.ensures t (c.told.ensures.shown t e)
