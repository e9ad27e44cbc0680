use Rattle.std.proofs.Common.{◌≡◌, ◌≤◌, ◌<◌, ◌+◌, ◌^◌, ◌++◌, ◌||◌, ℕ, List, [], true, drop, sym, ap, ◌∙◌, subst, rules, arith, Ok, Err}
use Rattle.std.specs.Prelude.{not}
use Rattle.std.specs.Str.{bytes_eq}
use Rattle.cbor_data.specs.Deterministic.{deterministic}
use Rattle.cbor_data.specs.Value.{value, values_place_count, pairs_place_count}
use Rattle.item_nodes.specs.View.{view, values_view, pairs_view}
use Rattle.cbor_item.specs.Walk.{Walks, WalksAmong, WalksAfter, ArePlain, ArePairsPlain, has}
use Rattle.item_nodes.specs.declared.item.Item.{Item}
use Rattle.item_nodes.specs.declared.item.Item.TheShapes.{weighed-Item-Map-0-at-2}
use Rattle.cbor_item.specs.declared.sound.Unsound.TheVariants.{Duplicate}
use Rattle.item_nodes.proofs.item.Item.TheLaws.{the_size}
use Rattle.item_nodes.proofs.Lemmas.{view-Array, view-Map, view-Tag, values_view-drop, values_view-end, pairs_view-drop, pairs_view-end, pair_size, pair_size-within}
use denote.Param.Weighed.{most}
use Rattle.cbor_item.proofs.Keeping.{KnowsKeys, knows_no_key, knows_key, key_repeats, key_ends, value_ends}
use Rattle.cbor_item.proofs.Plain.{plain_first, plain_pair}
use Rattle.cbor_item.proofs.Walking.{among_more, among_stop, among_none, after_none, walks_array, walks_pairs, walks_tag}
use Rattle.cbor_item.proofs.duplicates.+walk.Goals as goal

pub walk-returns-in-Array : goal.walk-returns-in-Array
walk-returns-in-Array t c =
    subst (λ i. Walks (view i) c.args.place c.walk_members.result) (sym c.in-Array.is)
    (subst (λ v. Walks v c.args.place c.walk_members.result) (sym (view-Array c.in-Array.items))
    (walks_array (values_view c.in-Array.items.items) c.args.place c.walk_members.result c.walk_members.ensures))

pub walk-returns-in-Tag : goal.walk-returns-in-Tag
walk-returns-in-Tag t c =
    subst (λ i. Walks (view i) c.args.place c.walk.result) (sym c.in-Tag.is)
    (subst (λ v. Walks v c.args.place c.walk.result) (sym (view-Tag c.in-Tag.field-0 c.in-Tag.content))
    (walks_tag c.in-Tag.field-0 (view c.in-Tag.content.value) c.args.place c.walk.result
    (subst (λ i. Walks (view i) (c.args.place + 1) c.walk.result) c.deref.ensures c.walk.ensures)))

pub walk_members-returns-in_err-next : goal.walk_members-returns-in_err-next
walk_members-returns-in_err-next t c =
    let ys = c.deref-item-items.result.now in
    let e = c.in_err-next.field-0.0 in
    let seen = values_view-drop ys c.loop-item.item-index c.item-item.result (omega arith) c.item-item.is in
    let is : c.from_residual.result ≡ Err e = search rules in
    subst (WalksAmong (values_view c.args.items.now.items) c.args.place) (sym is)
    (subst (λ zs. WalksAmong (values_view zs) c.args.place (Err e)) c.deref-item-items.ensures.value
    (c.loop-item.invariant.follows (Err e)
    (subst (λ vs. WalksAmong vs c.loop-item.next (Err e)) (sym seen)
    (among_stop (view c.item-item.result) (values_view (drop (c.loop-item.item-index + 1) ys)) c.loop-item.next e c.in_err-next.ensures))))

pub walk_members-loop-item-preserved : goal.walk_members-loop-item-preserved
walk_members-loop-item-preserved t c =
    let ys = c.deref-item-items.result.now in
    let x = view c.item-item.result in
    let rest = values_view (drop (c.loop-item.item-index + 1) ys) in
    let next = c.loop-item.next in
    let seen = values_view-drop ys c.loop-item.item-index c.item-item.result (omega arith) c.item-item.is in
    let room : next + values_place_count (value x rest) < 2 ^ 64 = subst (λ vs. next + values_place_count vs < 2 ^ 64) seen c.loop-item.invariant.room in
    record {
      plain = (plain_first x rest (subst ArePlain seen c.loop-item.invariant.plain)).1;
      room = omega (arith, room, c.in_ok-next.ensures.1);
      follows = λ r h.
          c.loop-item.invariant.follows r (subst (λ vs. WalksAmong vs next r) (sym seen) (among_more x rest next c.in_ok-next.next r c.in_ok-next.ensures h));
    }

pub walk_members-returns : goal.walk_members-returns
walk_members-returns t c =
    let ys = c.deref-item-items.result.now in
    let next = c.loop-item.next in
    let none = values_view-end ys c.loop-item.item-index c.loop-item-test.false in
    subst (λ zs. WalksAmong (values_view zs) c.args.place (Ok next)) c.deref-item-items.ensures.value
    (c.loop-item.invariant.follows (Ok next) (subst (λ vs. WalksAmong vs next (Ok next)) (sym none) (among_none next)))

pub walk-returns-in-Map : goal.walk-returns-in-Map
walk-returns-in-Map t c =
    subst (λ i. Walks (view i) c.args.place c.walk_pairs.result) (sym c.in-Map.is)
    (subst (λ v. Walks v c.args.place c.walk_pairs.result) (sym (view-Map c.in-Map.pairs))
    (walks_pairs (pairs_view c.in-Map.pairs.items) c.args.place c.walk_pairs.result c.walk_pairs.ensures))

pub walk_pairs-append_det-requires : goal.walk_pairs-append_det-requires
walk_pairs-append_det-requires t c =
    let ys = c.deref-key-items.result.now in
    let p = c.loop-key-item.result in
    let k = view p.0 in
    let v = view p.1 in
    let rest = pairs_view (drop (c.loop-key.key-index + 1) ys) in
    let next = c.loop-key.next in
    let first = pairs_view-drop ys c.loop-key.key-index p (omega arith) c.loop-key-item.is in
    let knows = subst (λ ps. KnowsKeys c.loop-key.keys ps next (pairs_view ys) c.args.place) first c.loop-key.invariant in
    record { plain = (plain_pair k v rest knows.plain).0; room = omega (arith, knows.room) }

pub walk_pairs-returns-in_err-after : goal.walk_pairs-returns-in_err-after
walk_pairs-returns-in_err-after t c =
    let ys = c.deref-key-items.result.now in
    let p = c.loop-key-item.result in
    let k = view p.0 in
    let v = view p.1 in
    let rest = pairs_view (drop (c.loop-key.key-index + 1) ys) in
    let next = c.loop-key.next in
    let first = pairs_view-drop ys c.loop-key.key-index p (omega arith) c.loop-key-item.is in
    let knows = subst (λ ps. KnowsKeys c.loop-key.keys ps next (pairs_view ys) c.args.place) first c.loop-key.invariant in
    let e = c.in_err-after.field-0.0 in
    let is : c.from_residual.result ≡ Err e = search rules in
    subst (WalksAfter [] (pairs_view c.args.pairs.now.items) c.args.place) (sym is)
    (subst (λ zs. WalksAfter [] (pairs_view zs) c.args.place (Err e)) c.deref-key-items.ensures.value
    (key_ends c.loop-key.keys k v rest next (pairs_view ys) c.args.place e knows c.in_err-after.ensures))

pub walk_pairs-returns-then-not-branch : goal.walk_pairs-returns-then-not-branch
walk_pairs-returns-then-not-branch t c =
    let ys = c.deref-key-items.result.now in
    let p = c.loop-key-item.result in
    let k = view p.0 in
    let v = view p.1 in
    let rest = pairs_view (drop (c.loop-key.key-index + 1) ys) in
    let next = c.loop-key.next in
    let first = pairs_view-drop ys c.loop-key.key-index p (omega arith) c.loop-key-item.is in
    let knows = subst (λ ps. KnowsKeys c.loop-key.keys ps next (pairs_view ys) c.args.place) first c.loop-key.invariant in
    let key : c.append_det.new.out.items ≡ deterministic k = c.in_ok-after.ensures.1 ∙ ap (λ b. b ++ deterministic k) c.new-bytes.ensures.items in
    let told = subst (λ b. c.in_ok-note_key.field-0 ≡ not (has c.loop-key.keys b)) key c.in_ok-note_key.ensures.new in
    subst (λ zs. WalksAfter [] (pairs_view zs) c.args.place (Err (Duplicate next))) c.deref-key-items.ensures.value
    (key_repeats c.loop-key.keys k v rest next (pairs_view ys) c.args.place knows (sym c.if-not-branch.true ∙ told))

pub walk_pairs-walk-requires : goal.walk_pairs-walk-requires
walk_pairs-walk-requires t c =
    let ys = c.deref-key-items.result.now in
    let p = c.loop-key-item.result in
    let k = view p.0 in
    let v = view p.1 in
    let rest = pairs_view (drop (c.loop-key.key-index + 1) ys) in
    let next = c.loop-key.next in
    let first = pairs_view-drop ys c.loop-key.key-index p (omega arith) c.loop-key-item.is in
    let knows = subst (λ ps. KnowsKeys c.loop-key.keys ps next (pairs_view ys) c.args.place) first c.loop-key.invariant in
    let less : pair_size p ≤ most (weighed-Item-Map-0-at-2.weight Item the_size) c.args.pairs.now.items = pair_size-within c.args.pairs.now.items _ c.loop-key.key-index p (omega arith) c.loop-key-item.is c.deref-key-items.ensures.value in
    (omega (arith, less), ((plain_pair k v rest knows.plain).1, omega (arith, knows.room, c.in_ok-after.ensures.0.1)))

pub walk_pairs-returns-in_err-next : goal.walk_pairs-returns-in_err-next
walk_pairs-returns-in_err-next t c =
    let ys = c.deref-key-items.result.now in
    let p = c.loop-key-item.result in
    let k = view p.0 in
    let v = view p.1 in
    let rest = pairs_view (drop (c.loop-key.key-index + 1) ys) in
    let next = c.loop-key.next in
    let first = pairs_view-drop ys c.loop-key.key-index p (omega arith) c.loop-key-item.is in
    let knows = subst (λ ps. KnowsKeys c.loop-key.keys ps next (pairs_view ys) c.args.place) first c.loop-key.invariant in
    let key : c.append_det.new.out.items ≡ deterministic k = c.in_ok-after.ensures.1 ∙ ap (λ b. b ++ deterministic k) c.new-bytes.ensures.items in
    let told = subst (λ b. c.in_ok-note_key.field-0 ≡ not (has c.loop-key.keys b)) key c.in_ok-note_key.ensures.new in
    let added : c.in_ok-note_key.field-0 ≡ true = search rules in
    let e = c.in_err-next.field-0.0 in
    let is : c.from_residual-in_err-next.result ≡ Err e = search rules in
    subst (WalksAfter [] (pairs_view c.args.pairs.now.items) c.args.place) (sym is)
    (subst (λ zs. WalksAfter [] (pairs_view zs) c.args.place (Err e)) c.deref-key-items.ensures.value
    (value_ends c.loop-key.keys k v rest next c.in_ok-after.after (pairs_view ys) c.args.place e knows (sym added ∙ told) c.in_ok-after.ensures.0 c.in_err-next.ensures))

pub walk_pairs-loop-key-preserved : goal.walk_pairs-loop-key-preserved
walk_pairs-loop-key-preserved t c =
    let ys = c.deref-key-items.result.now in
    let p = c.loop-key-item.result in
    let k = view p.0 in
    let v = view p.1 in
    let rest = pairs_view (drop (c.loop-key.key-index + 1) ys) in
    let next = c.loop-key.next in
    let first = pairs_view-drop ys c.loop-key.key-index p (omega arith) c.loop-key-item.is in
    let knows = subst (λ ps. KnowsKeys c.loop-key.keys ps next (pairs_view ys) c.args.place) first c.loop-key.invariant in
    let key : c.append_det.new.out.items ≡ deterministic k = c.in_ok-after.ensures.1 ∙ ap (λ b. b ++ deterministic k) c.new-bytes.ensures.items in
    let told = subst (λ b. c.in_ok-note_key.field-0 ≡ not (has c.loop-key.keys b)) key c.in_ok-note_key.ensures.new in
    let added : c.in_ok-note_key.field-0 ≡ true = search rules in
    let noted = subst (λ b. (part : List ℕ) → has c.note_key.new.keys part ≡ (bytes_eq part b || has c.loop-key.keys part)) key c.in_ok-note_key.ensures.noted in
    knows_key c.loop-key.keys c.note_key.new.keys k v rest next c.in_ok-after.after c.in_ok-next.next (pairs_view ys) c.args.place knows (sym added ∙ told) noted c.in_ok-after.ensures.0 c.in_ok-next.ensures

pub walk_pairs-returns : goal.walk_pairs-returns
walk_pairs-returns t c =
    let ys = c.deref-key-items.result.now in
    let next = c.loop-key.next in
    let none = pairs_view-end ys c.loop-key.key-index c.loop-key-test.false in
    let h = c.loop-key.invariant in
    subst (λ zs. WalksAfter [] (pairs_view zs) c.args.place (Ok next)) c.deref-key-items.ensures.value
    (h.follows (Ok next) (subst (λ ps. WalksAfter h.earlier ps next (Ok next)) (sym none) (after_none h.earlier next)))

pub walk_pairs-loop-key-init : goal.walk_pairs-loop-key-init
walk_pairs-loop-key-init t c =
    let ys = c.deref-key-items.result.now in
    let same : ys ≡ c.args.pairs.now.items = c.deref-key-items.ensures.value in
    knows_no_key c.new-keys.result (pairs_view ys) c.args.place
    (subst (λ zs. ArePairsPlain (pairs_view zs)) (sym same) c.requires.plain)
    (subst (λ zs. c.args.place + pairs_place_count (pairs_view zs) < 2 ^ 64) (sym same) c.requires.room)
    (λ part. search rules)
