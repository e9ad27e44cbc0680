use Rattle.cddl_token.specs.declared.Kind.TheVariants.{AngleClose, Name, NameOpen}
use Rattle.std.proofs.Common.{◌∷◌}
use Rattle.tree_nodes.specs.Syntax.Syntax as S
use Rattle.tree_nodes.specs.View.{view_arg, token_of}
use Rattle.tree_nodes.proofs.Lemmas.{views}
use Rattle.source_pieces.proofs.Ending.{alone, behind}
use Rattle.source_pieces.proofs.span.ref_end.Goals as goal

pub returns-in-Name : goal.returns-in-Name
returns-in-Name c = simp (c.in-Name.is, views) (alone (Name, token_of c.args.tree.now c.in-Name.token) _ c.end_of.ensures)

pub returns-in-Applied : goal.returns-in-Applied
returns-in-Applied c =
    let read = token_of c.args.tree.now in
    simp (c.in-Applied.is, views)
    (behind ((NameOpen, read c.in-Applied.opening) ∷ S.flat_arg (view_arg read c.in-Applied.arguments.value)) (alone (AngleClose, read c.in-Applied.closing) _ c.end_of-in-Applied.ensures))
