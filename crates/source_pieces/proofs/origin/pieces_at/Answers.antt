use Rattle.std.proofs.Common.{ap, ◌∙◌, map}
use Rattle.lists.proofs.Lemmas.{ok_then}
use Rattle.tree_nodes.specs.View.{token_of, view}
use Rattle.cddl_language.specs.Reading.{rules_of}
use Rattle.source_pieces.specs.Walk.{view_found}
use Rattle.source_pieces.proofs.Placing.{pieces_stand}
use Rattle.source_pieces.proofs.origin.pieces_at.Goals as goal

pub returns-clause-pieces : goal.returns-clause-pieces
returns-clause-pieces c =
    let read = token_of c.args.tree.now in
    ok_then c.pieces_of.result _ _ (λ v h. pieces_stand c.pieces_of.new.terms read (rules_of (view c.args.tree.now)) _ v.items (ap (map (view_found read)) c.deref.ensures.value ∙ c.in-Ok.ensures) h) c.pieces_of.ensures.read
