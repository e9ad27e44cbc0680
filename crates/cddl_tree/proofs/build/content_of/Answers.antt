use Rattle.std.proofs.Common.{◌∙◌, sym}
use Rattle.tree_nodes.specs.declared.tree.GrpEnt.TheViews.{out-Group}
use Rattle.tree_nodes.proofs.Lemmas.{view-Group, view_out-Group}
use Rattle.cddl_tree.proofs.Contents.{along_groups, empty, full, group_sole, group_several}
use Rattle.cddl_tree.proofs.build.content_of.Goals as goal

pub returns-then-is_empty : goal.returns-then-is_empty
returns-then-is_empty c = along_groups c.sole_content.result _ _ (λ read. group_sole read c.args.group (empty (out-Group c.args.group).others _ c.is_empty.ensures c.if-is_empty.true)) c.sole_content.ensures

pub returns-else-is_empty : goal.returns-else-is_empty
returns-else-is_empty c read = (view-Group read _ _ ∙ sym (view_out-Group read c.args.group), group_several read c.args.group (full (out-Group c.args.group).others _ c.is_empty.ensures c.if-is_empty.false))
