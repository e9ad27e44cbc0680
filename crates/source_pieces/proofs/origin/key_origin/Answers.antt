use Rattle.std.proofs.Common.{◌≡◌, IfOk, sym, subst}
use Rattle.tree_nodes.specs.View.{token_of, view_key, view_types}
use Rattle.source_pieces.specs.Origins.{IsKeyOf, MayBeOf}
use Rattle.source_pieces.specs.Pieces.{Piece, a_key, a_value, key_piece}
use Rattle.source_pieces.specs.Walk.{view_around, view_node}
use Rattle.source_pieces.proofs.origin.key_origin.Goals as goal

pub returns-in-Key-clause-key : goal.returns-in-Key-clause-key
returns-in-Key-clause-key c =
    let read = token_of c.args.tree.now in
    let e : view_node read c.args.node ≡ a_key (view_around read c.in-Key.field-0) (key_piece (view_key read c.in-Key.key.now)) = simp c.in-Key.is in
    let origin = subst (λ (p : Piece). IfOk c.node_origin.result (λ o. MayBeOf c.node_origin.new.terms p o)) (c.key_node.ensures read) c.node_origin.ensures.origin in
    subst (λ (p : Piece). IfOk c.node_origin.result (λ o. IsKeyOf c.node_origin.new.terms p o)) (sym e) origin

pub returns-in-Value-clause-key : goal.returns-in-Value-clause-key
returns-in-Value-clause-key c =
    let read = token_of c.args.tree.now in
    let e : view_node read c.args.node ≡ a_value (view_around read c.in-Value.field-0) (key_piece (view_key read c.in-Value.key.now)) (view_types read c.in-Value.field-2.now) = simp c.in-Value.is in
    let origin = subst (λ (p : Piece). IfOk c.node_origin-in-Value.result (λ o. MayBeOf c.node_origin-in-Value.new.terms p o)) (c.key_node-in-Value.ensures read) c.node_origin-in-Value.ensures.origin in
    subst (λ (p : Piece). IfOk c.node_origin-in-Value.result (λ o. IsKeyOf c.node_origin-in-Value.new.terms p o)) (sym e) origin
