use Rattle.cddl_token.specs.declared.Kind.TheVariants.{Occur, ParenClose, ParenOpen}
use Rattle.std.proofs.Common.{◌∷◌}
use Rattle.tree_nodes.specs.Syntax.Syntax as S
use Rattle.tree_nodes.specs.View.{leaf, view_group, view_key, token_of}
use Rattle.tree_nodes.proofs.Lemmas.{views}
use Rattle.source_pieces.proofs.Ending.{alone, behind}
use Rattle.source_pieces.proofs.span.entry_end.Goals as goal

pub returns-in-Typed : goal.returns-in-Typed
returns-in-Typed c =
    let read = token_of c.args.tree.now in
    simp (c.in-Typed.is, views) (behind (S.optional Occur (leaf read c.in-Typed.occur)) c.types_end.ensures)

pub returns-in-Keyed : goal.returns-in-Keyed
returns-in-Keyed c =
    let read = token_of c.args.tree.now in
    simp (c.in-Keyed.is, views) (behind (S.optional Occur (leaf read c.in-Keyed.occur)) (behind (S.flat_key (view_key read c.in-Keyed.key.value)) c.types_end-in-Keyed.ensures))

pub returns-in-Grouped : goal.returns-in-Grouped
returns-in-Grouped c =
    let read = token_of c.args.tree.now in
    simp (c.in-Grouped.is, views)
    (behind (S.optional Occur (leaf read c.in-Grouped.occur))
    (behind ((ParenOpen, read c.in-Grouped.opening) ∷ S.flat_group (view_group read c.in-Grouped.group)) (alone (ParenClose, read c.in-Grouped.closing) _ c.end_of.ensures)))
