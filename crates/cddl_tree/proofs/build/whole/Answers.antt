use Rattle.std.proofs.Common.{◌∙◌, ap, List, map}
use Rattle.tree_nodes.specs.Syntax.Syntax as S
use Rattle.tree_nodes.specs.declared.tree.GrpChoice.{GrpChoice}
use Rattle.cddl_tree.specs.Frames.{view_entries}
use Rattle.tree_nodes.specs.View.{with_choices, view_choice}
use Rattle.tree_nodes.proofs.Lemmas.{view-Group}
use Rattle.cddl_tree.proofs.Contents.{view_entries-push}
use Rattle.cddl_tree.proofs.build.whole.Goals as goal

pub returns-in-Ok : goal.returns-in-Ok
returns-in-Ok c read = (view-Group read _ _ ∙ (ap (λ (xs : List GrpChoice). with_choices (S.sole (view_entries read c.push_last.new.list.items)) (map (view_choice read) xs)) c.requires.alone ∙ ap S.sole (ap (view_entries read) c.in-Ok.ensures.items ∙ view_entries-push read c.args.first.items c.args.grpent c.args.comma)), c.requires.group read)
