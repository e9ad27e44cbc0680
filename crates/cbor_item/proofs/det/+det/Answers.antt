use Rattle.std.proofs.Common.{◌≡◌, ◌≤◌, ◌<◌, ◌+◌, ◌++◌, ◌^◌, length, drop, refl, sym, ap, ap₂, ◌∙◌, subst, rules, arith, Ok, Err, [], true, false}
use Rattle.cbor_data.specs.Deterministic.{deterministic}
use Rattle.cbor_data.specs.Preferred.{shortest_head}
use Rattle.std.specs.BTreeMap.{insert_entry}
use Rattle.std.specs.Cmp.Lexicographic.{slice_cmp}
use Rattle.std.specs.Ordering.{nat_cmp}
use Rattle.cbor_data.specs.Value.{value, values_len, pairs_len, values_place_count, pairs_place_count}
use Rattle.cbor_item.specs.Laying.{Lays, LaysAmong, LaysPairs, has_key, joined, seen, seen_entries}
use Rattle.item_nodes.specs.View.{view, values_view, pairs_view}
use Rattle.cbor_item.specs.Walk.{ArePlain, ArePairsPlain, WalksAfter}
use Rattle.item_nodes.specs.declared.item.Item.{Item}
use Rattle.item_nodes.specs.declared.item.Item.TheShapes.{weighed-Item-Map-0-at-2}
use Rattle.cbor_item.specs.declared.sound.Unsound.TheVariants.{Duplicate}
use Rattle.item_nodes.proofs.item.Item.TheLaws.{the_size}
use Rattle.item_nodes.proofs.Lemmas.{view-Array, view-Map, view-Tag, values_view-drop, values_view-end, values_len-view, pairs_view-drop, pairs_view-end, pairs_len-view, pair_size, pair_size-within}
use denote.Param.Weighed.{most}
use Rattle.cbor_item.proofs.Laying.{KnowsPairs, knows_none, knows_more, ends_repeated, ends_in_key, ends_in_value, all_known, lays_more, lays_stop, lays_none, lays_array, lays_map, lays_tag}
use Rattle.cbor_item.proofs.Plain.{plain_first, plain_pair}
use Rattle.cbor_item.proofs.det.+det.Goals as goal

pub append_members-returns-in_err-next : goal.append_members-returns-in_err-next
append_members-returns-in_err-next t c =
    let ys = c.deref-item-items.result.now in
    let e = c.in_err-next.field-0.0 in
    let start = c.args.out.now.items in
    let new = c.append_det.new.out.items in
    let seen = values_view-drop ys c.loop-item.item-index c.item-item.result (omega arith) c.item-item.is in
    let is : c.from_residual-in_err-next.result ≡ Err e = search rules in
    subst (LaysAmong (values_view c.args.items.now.items) c.args.place (start ++ shortest_head 4 (length c.args.items.now.items)) new) (sym is)
    (subst (λ zs. LaysAmong (values_view zs) c.args.place (start ++ shortest_head 4 (length zs)) new (Err e)) c.deref-item-items.ensures.value
    (c.loop-item.invariant.follows new (Err e)
    (subst (λ vs. LaysAmong vs c.loop-item.next c.loop-item.out.items new (Err e)) (sym seen)
    (lays_stop (view c.item-item.result) (values_view (drop (c.loop-item.item-index + 1) ys)) c.loop-item.next c.loop-item.out.items new e c.in_err-next.ensures))))

pub append_members-loop-item-init : goal.append_members-loop-item-init
append_members-loop-item-init t c =
    let ys = c.deref-item-items.result.now in
    let start = c.args.out.now.items in
    let same : ys ≡ c.args.items.now.items = c.deref-item-items.ensures.value in
    let len : c.len.result ≡ length c.args.items.now.items = search rules in
    let head : c.append_head.new.out.items ≡ start ++ shortest_head 4 (length ys) = c.in_ok-append_head.ensures.ok ∙ ap (λ n. start ++ shortest_head 4 n) (len ∙ ap length (sym same)) in
    record {
      plain = subst (λ zs. ArePlain (values_view zs)) (sym same) c.requires.plain;
      room = subst (λ zs. c.args.place + values_place_count (values_view zs) < 2 ^ 64) (sym same) c.requires.room;
      follows = λ new r h. subst (λ b. LaysAmong (values_view ys) c.args.place b new r) head h;
    }

pub append_members-loop-item-preserved : goal.append_members-loop-item-preserved
append_members-loop-item-preserved t c =
    let ys = c.deref-item-items.result.now in
    let x = view c.item-item.result in
    let rest = values_view (drop (c.loop-item.item-index + 1) ys) in
    let next = c.loop-item.next in
    let here = c.loop-item.out.items in
    let seen = values_view-drop ys c.loop-item.item-index c.item-item.result (omega arith) c.item-item.is in
    let room : next + values_place_count (value x rest) < 2 ^ 64 = subst (λ vs. next + values_place_count vs < 2 ^ 64) seen c.loop-item.invariant.room in
    record {
      plain = (plain_first x rest (subst ArePlain seen c.loop-item.invariant.plain)).1;
      room = omega (arith, room, c.in_ok-next.ensures.0.1);
      follows = λ new r h.
          c.loop-item.invariant.follows new r (subst (λ vs. LaysAmong vs next here new r) (sym seen) (lays_more x rest next c.in_ok-next.next here c.append_det.new.out.items new r c.in_ok-next.ensures h));
    }

pub append_members-returns : goal.append_members-returns
append_members-returns t c =
    let ys = c.deref-item-items.result.now in
    let next = c.loop-item.next in
    let here = c.loop-item.out.items in
    let none = values_view-end ys c.loop-item.item-index c.loop-item-test.false in
    subst (λ zs. LaysAmong (values_view zs) c.args.place (c.args.out.now.items ++ shortest_head 4 (length zs)) here (Ok next)) c.deref-item-items.ensures.value
    (c.loop-item.invariant.follows here (Ok next) (subst (λ vs. LaysAmong vs next here here (Ok next)) (sym none) (lays_none next here)))

pub append_pairs-loop-key-init : goal.append_pairs-loop-key-init
append_pairs-loop-key-init t c =
    let ys = c.deref-key-items.result.now in
    let none : seen c.new-noted.result ≡ [] = ap seen_entries c.new-noted.ensures.empty in
    let same : ys ≡ c.args.pairs.now.items = c.deref-key-items.ensures.value in
    subst (λ es. KnowsPairs es (pairs_view ys) c.args.place (pairs_view ys) c.args.place) (sym none)
    (knows_none (pairs_view ys) c.args.place
    (subst (λ zs. ArePairsPlain (pairs_view zs)) (sym same) c.requires.plain)
    (subst (λ zs. c.args.place + pairs_place_count (pairs_view zs) < 2 ^ 64) (sym same) c.requires.room))

-- what is noted is of keys in order, and the pair at hand is the first that is left
pub append_pairs-append_det-requires : goal.append_pairs-append_det-requires
append_pairs-append_det-requires t c =
    let ys = c.deref-key-items.result.now in
    let p = c.loop-key-item.result in
    let k = view p.0 in
    let v = view p.1 in
    let rest = pairs_view (drop (c.loop-key.key-index + 1) ys) in
    let next = c.loop-key.next in
    let first = pairs_view-drop ys c.loop-key.key-index p (omega arith) c.loop-key-item.is in
    let knows = subst (λ ps. KnowsPairs (seen c.loop-key.noted) ps next (pairs_view ys) c.args.place) first c.loop-key.invariant in
    let less : pair_size p ≤ most (weighed-Item-Map-0-at-2.weight Item the_size) c.args.pairs.now.items = pair_size-within c.args.pairs.now.items _ c.loop-key.key-index p (omega arith) c.loop-key-item.is c.deref-key-items.ensures.value in
    (omega (arith, less), ((plain_pair k v rest knows.plain).0, omega (arith, knows.room)))

pub append_pairs-returns-in_err-after : goal.append_pairs-returns-in_err-after
append_pairs-returns-in_err-after t c =
    let ys = c.deref-key-items.result.now in
    let p = c.loop-key-item.result in
    let k = view p.0 in
    let v = view p.1 in
    let rest = pairs_view (drop (c.loop-key.key-index + 1) ys) in
    let next = c.loop-key.next in
    let start = c.args.out.now.items in
    let e = c.in_err-after.field-0.0 in
    let first = pairs_view-drop ys c.loop-key.key-index p (omega arith) c.loop-key-item.is in
    let knows = subst (λ ps. KnowsPairs (seen c.loop-key.noted) ps next (pairs_view ys) c.args.place) first c.loop-key.invariant in
    let is : c.from_residual.result ≡ Err e = search rules in
    subst (LaysPairs (pairs_view c.args.pairs.now.items) c.args.place (start ++ shortest_head 5 (length c.args.pairs.now.items)) start) (sym is)
    (subst (λ zs. WalksAfter [] (pairs_view zs) c.args.place (Err e)) c.deref-key-items.ensures.value
    (ends_in_key (seen c.loop-key.noted) k v rest next (pairs_view ys) c.args.place e knows c.in_err-after.ensures))

pub append_pairs-returns-then-is_noted : goal.append_pairs-returns-then-is_noted
append_pairs-returns-then-is_noted t c =
    let ys = c.deref-key-items.result.now in
    let p = c.loop-key-item.result in
    let k = view p.0 in
    let v = view p.1 in
    let rest = pairs_view (drop (c.loop-key.key-index + 1) ys) in
    let next = c.loop-key.next in
    let first = pairs_view-drop ys c.loop-key.key-index p (omega arith) c.loop-key-item.is in
    let knows = subst (λ ps. KnowsPairs (seen c.loop-key.noted) ps next (pairs_view ys) c.args.place) first c.loop-key.invariant in
    let key : c.append_det.new.out.items ≡ deterministic k = c.in_ok-after.ensures.1 ∙ ap (λ b. b ++ deterministic k) c.new-key_bytes.ensures.items in
    let has : has_key (deterministic k) (seen c.loop-key.noted) ≡ true = ap (λ b. has_key b (seen c.loop-key.noted)) (sym key) ∙ (sym c.is_noted.ensures ∙ c.if-is_noted.true) in
    subst (λ zs. WalksAfter [] (pairs_view zs) c.args.place (Err (Duplicate next))) c.deref-key-items.ensures.value
    (ends_repeated (seen c.loop-key.noted) k v rest next (pairs_view ys) c.args.place knows has)

pub append_pairs-append_det-requires-in-loop-key : goal.append_pairs-append_det-requires-in-loop-key
append_pairs-append_det-requires-in-loop-key t c =
    let ys = c.deref-key-items.result.now in
    let p = c.loop-key-item.result in
    let k = view p.0 in
    let v = view p.1 in
    let rest = pairs_view (drop (c.loop-key.key-index + 1) ys) in
    let next = c.loop-key.next in
    let first = pairs_view-drop ys c.loop-key.key-index p (omega arith) c.loop-key-item.is in
    let knows = subst (λ ps. KnowsPairs (seen c.loop-key.noted) ps next (pairs_view ys) c.args.place) first c.loop-key.invariant in
    let less : pair_size p ≤ most (weighed-Item-Map-0-at-2.weight Item the_size) c.args.pairs.now.items = pair_size-within c.args.pairs.now.items _ c.loop-key.key-index p (omega arith) c.loop-key-item.is c.deref-key-items.ensures.value in
    (omega (arith, less), ((plain_pair k v rest knows.plain).1, omega (arith, knows.room, c.in_ok-after.ensures.0.1)))

pub append_pairs-returns-in_err-next : goal.append_pairs-returns-in_err-next
append_pairs-returns-in_err-next t c =
    let ys = c.deref-key-items.result.now in
    let p = c.loop-key-item.result in
    let k = view p.0 in
    let v = view p.1 in
    let rest = pairs_view (drop (c.loop-key.key-index + 1) ys) in
    let next = c.loop-key.next in
    let start = c.args.out.now.items in
    let e = c.in_err-next.field-0.0 in
    let first = pairs_view-drop ys c.loop-key.key-index p (omega arith) c.loop-key-item.is in
    let knows = subst (λ ps. KnowsPairs (seen c.loop-key.noted) ps next (pairs_view ys) c.args.place) first c.loop-key.invariant in
    let key : c.append_det.new.out.items ≡ deterministic k = c.in_ok-after.ensures.1 ∙ ap (λ b. b ++ deterministic k) c.new-key_bytes.ensures.items in
    let new : has_key (deterministic k) (seen c.loop-key.noted) ≡ false = ap (λ b. has_key b (seen c.loop-key.noted)) (sym key) ∙ (sym c.is_noted.ensures ∙ c.if-is_noted.false) in
    let is : c.from_residual-in_err-next.result ≡ Err e = search rules in
    subst (LaysPairs (pairs_view c.args.pairs.now.items) c.args.place (start ++ shortest_head 5 (length c.args.pairs.now.items)) start) (sym is)
    (subst (λ zs. WalksAfter [] (pairs_view zs) c.args.place (Err e)) c.deref-key-items.ensures.value
    (ends_in_value (seen c.loop-key.noted) k v rest next c.in_ok-after.after (pairs_view ys) c.args.place e knows new c.in_ok-after.ensures.0 c.in_err-next.ensures))

pub append_pairs-loop-key-preserved : goal.append_pairs-loop-key-preserved
append_pairs-loop-key-preserved t c =
    let ys = c.deref-key-items.result.now in
    let p = c.loop-key-item.result in
    let k = view p.0 in
    let v = view p.1 in
    let rest = pairs_view (drop (c.loop-key.key-index + 1) ys) in
    let next = c.loop-key.next in
    let es = seen c.loop-key.noted in
    let first = pairs_view-drop ys c.loop-key.key-index p (omega arith) c.loop-key-item.is in
    let knows = subst (λ ps. KnowsPairs es ps next (pairs_view ys) c.args.place) first c.loop-key.invariant in
    let key : c.append_det.new.out.items ≡ deterministic k = c.in_ok-after.ensures.1 ∙ ap (λ b. b ++ deterministic k) c.new-key_bytes.ensures.items in
    let held : c.append_det-in-loop-key.new.out.items ≡ deterministic v = c.in_ok-next.ensures.1 ∙ ap (λ b. b ++ deterministic v) c.new-value_bytes.ensures.items in
    let new : has_key (deterministic k) es ≡ false = ap (λ b. has_key b es) (sym key) ∙ (sym c.is_noted.ensures ∙ c.if-is_noted.false) in
    let noted : seen c.note.new.noted ≡ insert_entry (slice_cmp nat_cmp) es (deterministic k) (deterministic v) = c.in_ok-note.ensures.ok ∙ ap₂ (λ a b. insert_entry (slice_cmp nat_cmp) es a b) key held in
    subst (λ fs. KnowsPairs fs rest c.in_ok-next.next (pairs_view ys) c.args.place) (sym noted)
    (knows_more es k v rest next c.in_ok-after.after c.in_ok-next.next (pairs_view ys) c.args.place knows new c.in_ok-after.ensures.0 c.in_ok-next.ensures.0)

pub append_pairs-returns : goal.append_pairs-returns
append_pairs-returns t c =
    let ys = c.deref-key-items.result.now in
    let next = c.loop-key.next in
    let start = c.args.out.now.items in
    let new = c.append_map.new.out.items in
    let same : ys ≡ c.args.pairs.now.items = c.deref-key-items.ensures.value in
    let len : c.len.result ≡ length c.args.pairs.now.items = search rules in
    let none = pairs_view-end ys c.loop-key.key-index c.loop-key-test.false in
    let knows = subst (λ ps. KnowsPairs (seen c.loop-key.noted) ps next (pairs_view ys) c.args.place) none c.loop-key.invariant in
    let laid : new ≡ (start ++ shortest_head 5 (length ys)) ++ joined (seen c.loop-key.noted) = c.in_ok-append_map.ensures.ok ∙ ap (λ n. (start ++ shortest_head 5 n) ++ joined (seen c.loop-key.noted)) (len ∙ ap length (sym same)) in
    subst (λ zs. LaysPairs (pairs_view zs) c.args.place (start ++ shortest_head 5 (length zs)) new (Ok next)) same
    (all_known (seen c.loop-key.noted) next (pairs_view ys) c.args.place (start ++ shortest_head 5 (length ys)) new knows (subst (λ zs. ArePairsPlain (pairs_view zs)) (sym same) c.requires.plain) laid)

pub append_content-returns : goal.append_content-returns
append_content-returns t c =
    subst (λ b. Lays (view c.args.content.now) c.args.place b c.append_det.new.out.items c.append_det.result) c.in_ok-append_head.ensures.ok c.append_det.ensures

pub append_det-returns-in-Array : goal.append_det-returns-in-Array
append_det-returns-in-Array t c =
    let xs = c.in-Array.items.items in
    let old = c.args.out.now.items in
    let new = c.append_members.new.out.items in
    let r = c.append_members.result in
    subst (λ i. Lays (view i) c.args.place old new r) (sym c.in-Array.is)
    (subst (λ v. Lays v c.args.place old new r) (sym (view-Array c.in-Array.items))
    (lays_array (values_view xs) c.args.place old (old ++ shortest_head 4 (length xs)) new r (ap (λ n. old ++ shortest_head 4 n) (sym (values_len-view xs))) c.append_members.ensures))

pub append_det-returns-in-Map : goal.append_det-returns-in-Map
append_det-returns-in-Map t c =
    let ps = c.in-Map.pairs.items in
    let old = c.args.out.now.items in
    let new = c.append_pairs.new.out.items in
    let r = c.append_pairs.result in
    subst (λ i. Lays (view i) c.args.place old new r) (sym c.in-Map.is)
    (subst (λ v. Lays v c.args.place old new r) (sym (view-Map c.in-Map.pairs))
    (lays_map (pairs_view ps) c.args.place old (old ++ shortest_head 5 (length ps)) new r (ap (λ n. old ++ shortest_head 5 n) (sym (pairs_len-view ps))) c.append_pairs.ensures))

pub append_det-returns-in-Tag : goal.append_det-returns-in-Tag
append_det-returns-in-Tag t c =
    let n = c.in-Tag.number in
    let x = c.in-Tag.content in
    let old = c.args.out.now.items in
    let new = c.append_content.new.out.items in
    let r = c.append_content.result in
    subst (λ i. Lays (view i) c.args.place old new r) (sym c.in-Tag.is)
    (subst (λ v. Lays v c.args.place old new r) (sym (view-Tag n x))
    (lays_tag n (view x.value) c.args.place old (old ++ shortest_head 6 n) new r refl
    (subst (λ i. Lays (view i) (c.args.place + 1) (old ++ shortest_head 6 n) new r) c.deref.ensures c.append_content.ensures)))
