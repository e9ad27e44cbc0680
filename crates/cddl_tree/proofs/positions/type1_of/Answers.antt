use Rattle.tree_nodes.proofs.Lemmas.{view-One, view-Operation}
use Rattle.cddl_tree.proofs.Steps.{joined_none, joined_some}
use Rattle.cddl_tree.proofs.positions.type1_of.Goals as goal

pub returns-in-None : goal.returns-in-None
returns-in-None c read = joined_none read c.args.left _ _ c.in-None.is (view-One read _)

pub returns-in-Some : goal.returns-in-Some
returns-in-Some c read = joined_some read c.args.left _ c.into_inner-left.result _ _ c.in-Some.is c.into_inner-left.ensures (view-Operation read _ _ _)
