use Rattle.std.proofs.Common.{List, refl, sym, ap, subst, ◌∙◌, ◌++◌, ◌∷◌, [], take}
use Rattle.std.proofs.lemmas.List.{take_all, take_more}
use Rattle.tree_nodes.specs.View.{token_of}
use Rattle.source_pieces.specs.Origins.{AreRead}
use Rattle.source_pieces.specs.declared.node.Found.{Found}
use Rattle.source_pieces.specs.declared.piece.PieceAt.{PieceAt}
use Rattle.source_pieces.proofs.Growing.{grown}
use Rattle.source_pieces.proofs.Reading.{key_kept, may_kept, none_read, one_more_read}
use Rattle.source_pieces.proofs.origin.pieces_of.Goals as goal

pub loop-node-init : goal.loop-node-init
loop-node-init c = record {
  grows = record { texts = λ n x e. e; rows = λ n r e. e };
  are = subst (λ (xs : List PieceAt). AreRead c.args.terms.now (token_of c.args.tree.now) [] xs) (sym c.new-pieces.ensures.items) (none_read c.args.terms.now (token_of c.args.tree.now));
}

pub returns-in_err-origin-clause-grows : goal.returns-in_err-origin-clause-grows
returns-in_err-origin-clause-grows c = grown _ _ _ c.loop-node.invariant.grows c.in_err-origin.ensures.grows

pub returns-in_err-key-clause-grows : goal.returns-in_err-key-clause-grows
returns-in_err-key-clause-grows c = grown _ _ _ c.loop-node.invariant.grows (grown _ _ _ c.in_ok-origin.ensures.grows c.in_err-key.ensures.grows)

pub returns-in_err-push-clause-grows : goal.returns-in_err-push-clause-grows
returns-in_err-push-clause-grows c = grown _ _ _ c.loop-node.invariant.grows (grown _ _ _ c.in_ok-origin.ensures.grows (grown _ _ _ c.in_ok-key.ensures.grows c.in_ok-name.ensures.grows))

pub returns-in_err-name-clause-grows : goal.returns-in_err-name-clause-grows
returns-in_err-name-clause-grows c = grown _ _ _ c.loop-node.invariant.grows (grown _ _ _ c.in_ok-origin.ensures.grows (grown _ _ _ c.in_ok-key.ensures.grows c.in_err-name.ensures.grows))

pub loop-node-preserved : goal.loop-node-preserved
loop-node-preserved c = record {
  grows = grown _ _ _ c.loop-node.invariant.grows (grown _ _ _ c.in_ok-origin.ensures.grows (grown _ _ _ c.in_ok-key.ensures.grows c.in_ok-name.ensures.grows));
  are = one_more_read _ _ (token_of c.args.tree.now) _ _ _ _ _ c.node-item.result c.loop-node.invariant.are (grown _ _ _ c.in_ok-origin.ensures.grows (grown _ _ _ c.in_ok-key.ensures.grows c.in_ok-name.ensures.grows)) (take_more c.args.found.now c.loop-node.node-index _ c.loop-node-test.true ∙ ap (λ (f : Found). take c.loop-node.node-index c.args.found.now ++ f ∷ []) (sym c.node-item.is)) (record { rule = refl; is = record { origin = may_kept _ _ _ _ (grown _ _ _ c.in_ok-key.ensures.grows c.in_ok-name.ensures.grows) c.in_ok-origin.ensures.origin; key = key_kept _ _ _ _ c.in_ok-name.ensures.grows c.in_ok-key.ensures.key; around = c.around_at.ensures; entry = c.entry_at.ensures (token_of c.args.tree.now); name = c.in_ok-name.ensures.name; own = refl; span = c.node_span.ensures } }) c.in_ok-push.ensures;
}

pub returns-clause-read : goal.returns-clause-read
returns-clause-read c = subst (λ (fs : List Found). AreRead c.loop-node.terms (token_of c.args.tree.now) fs c.loop-node.pieces.items) (take_all c.loop-node.node-index c.args.found.now c.loop-node-test.false) c.loop-node.invariant.are
