use Rattle.std.proofs.Common.{◌≡◌, ◌+◌, ◌++◌, [], ◌∷◌, drop, subst, arith}
use Rattle.cbor_data.specs.Notation.{notation}
use Rattle.cbor_data.specs.Value.{pair, pairs}
use Rattle.item_nodes.specs.View.{view, pairs_view}
use Rattle.item_nodes.proofs.Commas.{pairs_from, pair_shown}
use Rattle.item_nodes.proofs.Walks.{pairs_view-drop}
use Rattle.item_nodes.proofs.notation.+show.Goals as goal

pub push_pairs-loop-i-preserved : goal.push_pairs-loop-i-preserved
push_pairs-loop-i-preserved t c =
    let ys = c.deref-pair-items.result.now in
    let zs = c.args.pairs.now.items in
    let i = c.loop-i.i in
    let p = c.pair-item.result in
    let out = c.loop-i.out.items in
    let all = c.args.out.now.items ++ notation (pairs (pairs_view zs)) in
    let seen = subst (λ qs. pairs_view (drop i qs) ≡ pair (view p.0) (view p.1) (pairs_view (drop (i + 1) qs))) c.deref-pair-items.ensures.value (pairs_view-drop ys i p (omega arith) c.pair-item.is) in
    pair_shown i (view p.0) (view p.1) (pairs_view (drop (i + 1) zs)) (125 ∷ []) all out c.push_comma.new.out.items c.push_notation.new.out.items c.extend_from_slice.new.self.items c.push_notation-in-loop-i.new.out.items
    (subst (λ ps. out ++ (pairs_from i ps ++ 125 ∷ []) ≡ all) seen c.loop-i.invariant)
    c.in_ok-push_comma.ensures c.in_ok-push_notation.ensures c.in_ok-extend_from_slice.ensures.items c.in_ok-push_notation-2.ensures
