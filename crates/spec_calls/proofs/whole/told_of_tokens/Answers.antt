use Rattle.tree_nodes.specs.View.{view}
use Rattle.spec_calls.proofs.whole.told_of_tokens.Goals as goal

pub check-requires : goal.check-requires
check-requires c = c.trees_are_of_tokens.ensures c.requires.read.0 c.args.found.now (view c.in_ok-tree.tree) c.requires.read.1 c.in_ok-tree.ensures.tree
