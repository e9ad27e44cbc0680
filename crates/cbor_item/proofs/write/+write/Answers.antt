use Rattle.std.proofs.Common.{◌≡◌, ◌≤◌, ◌<◌, ◌+◌, ◌^◌, ◌++◌, length, drop, sym, ap, ◌∙◌, subst, rules, arith, Ok, Err}
use Rattle.cbor_data.specs.Preferred.{shortest_head, preferred, values_preferred, pairs_preferred}
use Rattle.cbor_data.specs.Value.{array, pairs, values_len, pairs_len, AreValuesFitting, ArePairsFitting}
use Rattle.cbor_item.specs.Gone.{state_of, Goes}
use Rattle.item_nodes.specs.View.{view, values_view, pairs_view}
use Rattle.item_nodes.specs.declared.item.Item.{Item}
use Rattle.item_nodes.specs.declared.item.Item.TheShapes.{weighed-Item-Map-0-at-2}
use Rattle.item_nodes.proofs.item.Item.TheLaws.{the_size}
use Rattle.item_nodes.proofs.Lemmas.{view-Tag, values_view-drop, values_view-end, values_len-view, pairs_view-drop, pairs_view-end, pairs_len-view, pair_size, pair_size-within}
use denote.Param.Weighed.{most}
use Rattle.cbor_item.proofs.Goes.{goes_on, goes_no_further, goes_nowhere, room_first, room_rest}
use Rattle.cbor_item.proofs.write.+write.Goals as goal

pub write_members-write_shortest-requires : goal.write_members-write_shortest-requires
write_members-write_shortest-requires g t c =
    let vs = values_view c.args.items.now.items in
    let len : c.len.result ≡ length c.args.items.now.items = search rules in
    let head : shortest_head 4 c.len.result ≡ shortest_head 4 (values_len vs) = ap (shortest_head 4) (len ∙ sym (values_len-view c.args.items.now.items)) in
    record { major = omega arith; room = subst (λ h. c.args.before + length h < 2 ^ 128) (sym head) (room_first c.args.before (2 ^ 128) (shortest_head 4 (values_len vs)) (values_preferred vs) c.requires.room) }

pub write_members-returns-in_err-after : goal.write_members-returns-in_err-after
write_members-returns-in_err-after g t c =
    let vs = values_view c.args.items.now.items in
    let old = state_of g.W.Write.contents c.args.out.now in
    let new = state_of g.W.Write.contents c.write_shortest.new.out in
    let fault = c.in_err-after.field-0.0 in
    let len : c.len.result ≡ length c.args.items.now.items = search rules in
    let head : shortest_head 4 c.len.result ≡ shortest_head 4 (values_len vs) = ap (shortest_head 4) (len ∙ sym (values_len-view c.args.items.now.items)) in
    let is : c.from_residual.result ≡ Err fault = search rules in
    subst (Goes old new c.args.before (preferred (array vs))) (sym is)
    (subst (λ h. Goes old new c.args.before (h ++ values_preferred vs) (Err fault)) head
    (goes_no_further old new c.args.before fault.written (shortest_head 4 c.len.result) (values_preferred vs) c.in_err-after.ensures))

pub write_members-loop-item-init : goal.write_members-loop-item-init
write_members-loop-item-init g t c =
    let ys = c.deref-item-items.result.now in
    let vs = values_view ys in
    let old = state_of g.W.Write.contents c.args.out.now in
    let mid = state_of g.W.Write.contents c.write_shortest.new.out in
    let same : ys ≡ c.args.items.now.items = c.deref-item-items.ensures.value in
    let len : c.len.result ≡ length c.args.items.now.items = search rules in
    let head : shortest_head 4 c.len.result ≡ shortest_head 4 (values_len vs) = ap (shortest_head 4) (len ∙ ap length (sym same) ∙ sym (values_len-view ys)) in
    record {
      fitting = subst (λ zs. AreValuesFitting (values_view zs)) (sym same) c.requires.fitting;
      room =
          room_rest c.args.before c.in_ok-after.after (2 ^ 128) (shortest_head 4 c.len.result) (values_preferred vs) c.in_ok-after.ensures.is
          (subst (λ h. c.args.before + length (h ++ values_preferred vs) < 2 ^ 128) (sym head) (subst (λ zs. c.args.before + length (preferred (array (values_view zs))) < 2 ^ 128) (sym same) c.requires.room));
      follows = λ end r h.
          subst (λ x. Goes old end c.args.before (x ++ values_preferred vs) r) head
          (goes_on old mid end c.args.before c.in_ok-after.after (shortest_head 4 c.len.result) (values_preferred vs) r c.in_ok-after.ensures h);
    }

pub write_members-loop-item-preserved : goal.write_members-loop-item-preserved
write_members-loop-item-preserved g t c =
    let ys = c.deref-item-items.result.now in
    let x = preferred (view c.item-item.result) in
    let rest = values_preferred (values_view (drop (c.loop-item.item-index + 1) ys)) in
    let cur = state_of g.W.Write.contents c.loop-item.out in
    let mid = state_of g.W.Write.contents c.write_value.new.out in
    let after = c.loop-item.after in
    let next = c.in_ok-after-2.after in
    let seen = values_view-drop ys c.loop-item.item-index c.item-item.result (omega arith) c.item-item.is in
    record {
      fitting = (subst AreValuesFitting seen c.loop-item.invariant.fitting).1;
      room = room_rest after next (2 ^ 128) x rest c.in_ok-after-2.ensures.is (subst (λ vs. after + length (values_preferred vs) < 2 ^ 128) seen c.loop-item.invariant.room);
      follows = λ end r h.
          c.loop-item.invariant.follows end r
          (subst (λ vs. Goes cur end after (values_preferred vs) r) (sym seen) (goes_on cur mid end after next x rest r c.in_ok-after-2.ensures h));
    }

pub write_members-returns : goal.write_members-returns
write_members-returns g t c =
    let ys = c.deref-item-items.result.now in
    let here = state_of g.W.Write.contents c.loop-item.out in
    let old = state_of g.W.Write.contents c.args.out.now in
    let after = c.loop-item.after in
    let none = values_view-end ys c.loop-item.item-index c.loop-item-test.false in
    subst (λ zs. Goes old here c.args.before (preferred (array (values_view zs))) (Ok after)) c.deref-item-items.ensures.value
    (c.loop-item.invariant.follows here (Ok after) (subst (λ vs. Goes here here after (values_preferred vs) (Ok after)) (sym none) (goes_nowhere here after)))

pub write_pairs-write_shortest-requires : goal.write_pairs-write_shortest-requires
write_pairs-write_shortest-requires g t c =
    let vs = pairs_view c.args.pairs.now.items in
    let len : c.len.result ≡ length c.args.pairs.now.items = search rules in
    let head : shortest_head 5 c.len.result ≡ shortest_head 5 (pairs_len vs) = ap (shortest_head 5) (len ∙ sym (pairs_len-view c.args.pairs.now.items)) in
    record { major = omega arith; room = subst (λ h. c.args.before + length h < 2 ^ 128) (sym head) (room_first c.args.before (2 ^ 128) (shortest_head 5 (pairs_len vs)) (pairs_preferred vs) c.requires.room) }

pub write_pairs-returns-in_err-after : goal.write_pairs-returns-in_err-after
write_pairs-returns-in_err-after g t c =
    let vs = pairs_view c.args.pairs.now.items in
    let old = state_of g.W.Write.contents c.args.out.now in
    let new = state_of g.W.Write.contents c.write_shortest.new.out in
    let fault = c.in_err-after.field-0.0 in
    let len : c.len.result ≡ length c.args.pairs.now.items = search rules in
    let head : shortest_head 5 c.len.result ≡ shortest_head 5 (pairs_len vs) = ap (shortest_head 5) (len ∙ sym (pairs_len-view c.args.pairs.now.items)) in
    let is : c.from_residual.result ≡ Err fault = search rules in
    subst (Goes old new c.args.before (preferred (pairs vs))) (sym is)
    (subst (λ h. Goes old new c.args.before (h ++ pairs_preferred vs) (Err fault)) head
    (goes_no_further old new c.args.before fault.written (shortest_head 5 c.len.result) (pairs_preferred vs) c.in_err-after.ensures))

pub write_pairs-loop-key-init : goal.write_pairs-loop-key-init
write_pairs-loop-key-init g t c =
    let ys = c.deref-key-items.result.now in
    let vs = pairs_view ys in
    let old = state_of g.W.Write.contents c.args.out.now in
    let mid = state_of g.W.Write.contents c.write_shortest.new.out in
    let same : ys ≡ c.args.pairs.now.items = c.deref-key-items.ensures.value in
    let len : c.len.result ≡ length c.args.pairs.now.items = search rules in
    let head : shortest_head 5 c.len.result ≡ shortest_head 5 (pairs_len vs) = ap (shortest_head 5) (len ∙ ap length (sym same) ∙ sym (pairs_len-view ys)) in
    record {
      fitting = subst (λ zs. ArePairsFitting (pairs_view zs)) (sym same) c.requires.fitting;
      room =
          room_rest c.args.before c.in_ok-after.after (2 ^ 128) (shortest_head 5 c.len.result) (pairs_preferred vs) c.in_ok-after.ensures.is
          (subst (λ h. c.args.before + length (h ++ pairs_preferred vs) < 2 ^ 128) (sym head) (subst (λ zs. c.args.before + length (preferred (pairs (pairs_view zs))) < 2 ^ 128) (sym same) c.requires.room));
      follows = λ end r h.
          subst (λ x. Goes old end c.args.before (x ++ pairs_preferred vs) r) head
          (goes_on old mid end c.args.before c.in_ok-after.after (shortest_head 5 c.len.result) (pairs_preferred vs) r c.in_ok-after.ensures h);
    }

pub write_pairs-write_value-requires : goal.write_pairs-write_value-requires
write_pairs-write_value-requires g t c = λ κs lives.
    let p = c.loop-key-item.result in
    let ys = c.deref-key-items.result.now in
    let k = preferred (view p.0) in
    let v = preferred (view p.1) in
    let rest = pairs_preferred (pairs_view (drop (c.loop-key.key-index + 1) ys)) in
    let after = c.loop-key.after in
    let seen = pairs_view-drop ys c.loop-key.key-index p (omega arith) c.loop-key-item.is in
    let less : pair_size p ≤ most (weighed-Item-Map-0-at-2.weight Item the_size) c.args.pairs.now.items = pair_size-within c.args.pairs.now.items _ c.loop-key.key-index p (omega arith) c.loop-key-item.is c.deref-key-items.ensures.value in
    let room : after + length (k ++ (v ++ rest)) < 2 ^ 128 = subst (λ vs. after + length (pairs_preferred vs) < 2 ^ 128) seen c.loop-key.invariant.room in
    (omega (arith, less), (lives, ((subst ArePairsFitting seen c.loop-key.invariant.fitting).0, room_first after (2 ^ 128) k (v ++ rest) room)))

pub write_pairs-write_value-requires-in-loop-key : goal.write_pairs-write_value-requires-in-loop-key
write_pairs-write_value-requires-in-loop-key g t c = λ κs lives.
    let p = c.loop-key-item.result in
    let ys = c.deref-key-items.result.now in
    let k = preferred (view p.0) in
    let v = preferred (view p.1) in
    let rest = pairs_preferred (pairs_view (drop (c.loop-key.key-index + 1) ys)) in
    let after = c.loop-key.after in
    let seen = pairs_view-drop ys c.loop-key.key-index p (omega arith) c.loop-key-item.is in
    let less : pair_size p ≤ most (weighed-Item-Map-0-at-2.weight Item the_size) c.args.pairs.now.items = pair_size-within c.args.pairs.now.items _ c.loop-key.key-index p (omega arith) c.loop-key-item.is c.deref-key-items.ensures.value in
    let room : after + length (k ++ (v ++ rest)) < 2 ^ 128 = subst (λ vs. after + length (pairs_preferred vs) < 2 ^ 128) seen c.loop-key.invariant.room in (
      omega (arith, less),
      (
        lives,
        (
          (subst ArePairsFitting seen c.loop-key.invariant.fitting).1,
          room_first c.in_ok-after-2.after (2 ^ 128) v rest (room_rest after c.in_ok-after-2.after (2 ^ 128) k (v ++ rest) c.in_ok-after-2.ensures.is room),
        ),
      ),
    )

pub write_pairs-returns-in_err-after-3 : goal.write_pairs-returns-in_err-after-3
write_pairs-returns-in_err-after-3 g t c =
    let ys = c.deref-key-items.result.now in
    let p = c.loop-key-item.result in
    let k = preferred (view p.0) in
    let v = preferred (view p.1) in
    let rest = pairs_preferred (pairs_view (drop (c.loop-key.key-index + 1) ys)) in
    let old = state_of g.W.Write.contents c.args.out.now in
    let cur = state_of g.W.Write.contents c.loop-key.out in
    let mid = state_of g.W.Write.contents c.write_value.new.out in
    let new = state_of g.W.Write.contents c.write_value-in-loop-key.new.out in
    let after = c.loop-key.after in
    let fault = c.in_err-after-3.field-0.0 in
    let seen = pairs_view-drop ys c.loop-key.key-index p (omega arith) c.loop-key-item.is in
    let is : c.from_residual-in_err-after-3.result ≡ Err fault = search rules in
    subst (λ r. Goes old new c.args.before (preferred (pairs (pairs_view c.args.pairs.now.items))) r) (sym is)
    (subst (λ zs. Goes old new c.args.before (preferred (pairs (pairs_view zs))) (Err fault)) c.deref-key-items.ensures.value
    (c.loop-key.invariant.follows new (Err fault)
    (subst (λ vs. Goes cur new after (pairs_preferred vs) (Err fault)) (sym seen)
    (goes_on cur mid new after c.in_ok-after-2.after k (v ++ rest) (Err fault) c.in_ok-after-2.ensures
    (goes_no_further mid new c.in_ok-after-2.after fault.written v rest c.in_err-after-3.ensures)))))

pub write_pairs-loop-key-preserved : goal.write_pairs-loop-key-preserved
write_pairs-loop-key-preserved g t c =
    let ys = c.deref-key-items.result.now in
    let p = c.loop-key-item.result in
    let k = preferred (view p.0) in
    let v = preferred (view p.1) in
    let rest = pairs_preferred (pairs_view (drop (c.loop-key.key-index + 1) ys)) in
    let cur = state_of g.W.Write.contents c.loop-key.out in
    let mid = state_of g.W.Write.contents c.write_value.new.out in
    let new = state_of g.W.Write.contents c.write_value-in-loop-key.new.out in
    let after = c.loop-key.after in
    let keyed = c.in_ok-after-2.after in
    let next = c.in_ok-after-3.after in
    let seen = pairs_view-drop ys c.loop-key.key-index p (omega arith) c.loop-key-item.is in
    let room : after + length (k ++ (v ++ rest)) < 2 ^ 128 = subst (λ vs. after + length (pairs_preferred vs) < 2 ^ 128) seen c.loop-key.invariant.room in
    record {
      fitting = (subst ArePairsFitting seen c.loop-key.invariant.fitting).2;
      room = room_rest keyed next (2 ^ 128) v rest c.in_ok-after-3.ensures.is (room_rest after keyed (2 ^ 128) k (v ++ rest) c.in_ok-after-2.ensures.is room);
      follows = λ end r h.
          c.loop-key.invariant.follows end r
          (subst (λ vs. Goes cur end after (pairs_preferred vs) r) (sym seen)
          (goes_on cur mid end after keyed k (v ++ rest) r c.in_ok-after-2.ensures (goes_on mid new end keyed next v rest r c.in_ok-after-3.ensures h)));
    }

pub write_pairs-returns : goal.write_pairs-returns
write_pairs-returns g t c =
    let ys = c.deref-key-items.result.now in
    let here = state_of g.W.Write.contents c.loop-key.out in
    let old = state_of g.W.Write.contents c.args.out.now in
    let after = c.loop-key.after in
    let none = pairs_view-end ys c.loop-key.key-index c.loop-key-test.false in
    subst (λ zs. Goes old here c.args.before (preferred (pairs (pairs_view zs))) (Ok after)) c.deref-key-items.ensures.value
    (c.loop-key.invariant.follows here (Ok after) (subst (λ vs. Goes here here after (pairs_preferred vs) (Ok after)) (sym none) (goes_nowhere here after)))

pub write_value-returns-in_ok-after-in-Tag : goal.write_value-returns-in_ok-after-in-Tag
write_value-returns-in_ok-after-in-Tag g t c =
    let old = state_of g.W.Write.contents c.args.out.now in
    let mid = state_of g.W.Write.contents c.write_shortest-in-Tag.new.out in
    let new = state_of g.W.Write.contents c.write_value.new.out in
    let r = c.write_value.result in
    subst (λ i. Goes old new c.args.before (preferred (view i)) r) (sym c.in-Tag.is)
    (subst (λ v. Goes old new c.args.before (preferred v) r) (sym (view-Tag c.in-Tag.number c.in-Tag.content))
    (subst (λ i. Goes old new c.args.before (shortest_head 6 c.in-Tag.number ++ preferred (view i)) r) c.deref.ensures
    (goes_on old mid new c.args.before c.in_ok-after-in-Tag.after (shortest_head 6 c.in-Tag.number) (preferred (view c.deref.result.now)) r c.in_ok-after-in-Tag.ensures c.write_value.ensures)))
