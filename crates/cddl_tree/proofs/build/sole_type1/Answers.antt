use Rattle.tree_nodes.specs.declared.tree.GrpEnt.TheViews.{out-Types}
use Rattle.cddl_tree.proofs.Contents.{empty, full, types_only, types_several}
use Rattle.cddl_tree.proofs.build.sole_type1.Goals as goal

pub returns-then-is_empty-clause-sole : goal.returns-then-is_empty-clause-sole
returns-then-is_empty-clause-sole c read = types_only read c.args.types (empty (out-Types c.args.types).others _ c.is_empty.ensures c.if-is_empty.true)

pub returns-else-is_empty-clause-several : goal.returns-else-is_empty-clause-several
returns-else-is_empty-clause-several c read = types_several read c.args.types (full (out-Types c.args.types).others _ c.is_empty.ensures c.if-is_empty.false)
