use Rattle.cddl_token.specs.declared.Kind.TheVariants.{ParenClose, ParenOpen}
use Rattle.std.proofs.Common.{◌∷◌}
use Rattle.tree_nodes.specs.Syntax.Syntax as S
use Rattle.tree_nodes.specs.View.{view_group, token_of}
use Rattle.source_pieces.proofs.Ending.{alone, behind}
use Rattle.source_pieces.proofs.span.inner_span.Goals as goal

pub returns-in-Types : goal.returns-in-Types
returns-in-Types c = simp c.in-Types.is c.bare_span.ensures

pub returns-in-Group : goal.returns-in-Group
returns-in-Group c =
    let read = token_of c.args.tree.now in
    simp c.in-Group.is
    (record {
      starts = c.brackets_span.ensures.first;
      ends = behind ((ParenOpen, read c.in-Group.opening) ∷ S.flat_group (view_group read c.in-Group.field-1.now)) (alone (ParenClose, read c.in-Group.closing) _ c.brackets_span.ensures.end);
    })
