use Rattle.std.proofs.Common.{◌≡◌, ℕ, ◌≤◌, ◌+◌, ◌-◌, ◌++◌, length, drop, [], ◌∷◌, length-append, append_assoc, refl, sym, ap, ap₂, ◌∙◌, subst, rules, arith}
use Rattle.cbor_data.specs.Deterministic.{deterministic, pairs_ordered}
use Rattle.cbor_data.specs.Preferred.{shortest_head, pairs_preferred}
use Rattle.cbor_data.specs.Value.{array, pairs, value, pair, values_len, pairs_len}
use Rattle.cbor_data.proofs.Lemmas.{HasKeysApart, apart_valid, valid_apart}
use Rattle.item_nodes.specs.InOrder.{laid, lengths_of, total, cut}
use Rattle.cbor_item.specs.Laying.{joined}
use Rattle.item_nodes.specs.View.{view, values_view, pairs_view}
use Rattle.cbor_data.specs.Validity.{IsValid}
use Rattle.cbor_item.specs.Walk.{IsPlain, ArePlain, ArePairsPlain}
use Rattle.item_nodes.specs.declared.item.Item.{Item}
use Rattle.item_nodes.specs.declared.item.Item.TheShapes.{weighed-Item-Map-0-at-2}
use Rattle.item_nodes.proofs.item.Item.TheLaws.{the_size}
use Rattle.item_nodes.proofs.Lemmas.{values_view-drop, values_len-view, pairs_view-drop, pairs_len-view, pair_size, pair_size-within, size-within}
use denote.Param.Weighed.{most}
use Rattle.cbor_item.proofs.Adding.{ok_then, array_known, map_known, tag_known, added_array, added_map, added_tag}
use Rattle.cbor_item.proofs.Plain.{plain_first, plain_members, plain_pair, plain_pairs}
use Rattle.cbor_item.proofs.Sizes.{array_size, map_size, tag_size}
use Rattle.cbor_item.proofs.Sorted.{rising_joined, total_joined, cut_joined}
use Rattle.cbor_item.proofs.deterministic.+add.Goals as goal

pub add_det-add_members-requires : goal.add_det-add_members-requires
add_det-add_members-requires t c =
    let known = array_known c.args.item.now c.in-Array.items c.in-Array.is c.requires.plain c.requires.valid in
    (omega (arith, array_size c.in-Array.items, ap the_size c.in-Array.is), (plain_members (values_view c.in-Array.items.items) known.plain, known.valid))

pub add_det-add_pairs-requires : goal.add_det-add_pairs-requires
add_det-add_pairs-requires t c =
    let known = map_known c.args.item.now c.in-Map.pairs c.in-Map.is c.requires.plain c.requires.valid in
    (omega (arith, map_size c.in-Map.pairs, ap the_size c.in-Map.is), (plain_pairs (pairs_view c.in-Map.pairs.items) known.plain, known.valid))

pub add_det-lay_out-requires : goal.add_det-lay_out-requires
add_det-lay_out-requires t c =
    let known = map_known c.args.item.now c.in-Map.pairs c.in-Map.is c.requires.plain c.requires.valid in
    (omega (arith, map_size c.in-Map.pairs, ap the_size c.in-Map.is), (plain_pairs (pairs_view c.in-Map.pairs.items) known.plain, known.valid))

pub add_det-add_det-requires : goal.add_det-add_det-requires
add_det-add_det-requires t c =
    let known = tag_known c.args.item.now c.in-Tag.number c.in-Tag.content c.in-Tag.is c.requires.plain c.requires.valid in
    (omega (arith, tag_size c.in-Tag.number c.in-Tag.content, ap the_size c.in-Tag.is, ap the_size c.deref.ensures), (subst (λ i. IsPlain (view i)) (sym c.deref.ensures) known.plain, subst (λ i. IsValid (view i)) (sym c.deref.ensures) known.valid))

pub add_det-returns-in_ok-add_head-in-Array : goal.add_det-returns-in_ok-add_head-in-Array
add_det-returns-in_ok-add_head-in-Array t c =
    let xs = c.in-Array.items.items in
    let old = c.args.out.now.items in
    let mid = c.add_head-in-Array.new.out.items in
    let len : c.len.result ≡ length xs = search rules in
    let head : shortest_head 4 c.len.result ≡ shortest_head 4 (values_len (values_view xs)) = ap (shortest_head 4) (len ∙ sym (values_len-view xs)) in
    ok_then c.add_members.result (added_array c.args.item.now c.in-Array.items old mid c.add_members.new.out.items c.in-Array.is (c.in_ok-add_head-in-Array.ensures ∙ ap (λ b. old ++ b) head)) c.add_members.ensures

pub add_det-returns-then-are_keys_rising : goal.add_det-returns-then-are_keys_rising
add_det-returns-then-are_keys_rising t c =
    let ps = c.in-Map.pairs.items in
    let old = c.args.out.now.items in
    let mid = c.add_head-in-Map.new.out.items in
    let known = map_known c.args.item.now c.in-Map.pairs c.in-Map.is c.requires.plain c.requires.valid in
    let len : c.len-in-Map.result ≡ length ps = search rules in
    let head : shortest_head 5 c.len-in-Map.result ≡ shortest_head 5 (pairs_len (pairs_view ps)) = ap (shortest_head 5) (len ∙ sym (pairs_len-view ps)) in
    let up = rw c.as_slice-in-Map.ensures.value at (c.are_keys_rising.ensures c.if-are_keys_rising.true) in
    let order : joined (laid (pairs_view ps)) ≡ pairs_preferred (pairs_ordered (pairs_view ps)) = rising_joined ps known.plain (valid_apart (pairs (pairs_view ps)) known.valid) up in
    ok_then c.add_pairs.result (λ h. added_map c.args.item.now c.in-Map.pairs old mid c.add_pairs.new.out.items c.in-Map.is (c.in_ok-add_head-in-Map.ensures ∙ ap (λ b. old ++ b) head) (h ∙ ap (λ b. mid ++ b) order)) c.add_pairs.ensures

pub add_det-add_sorted-requires : goal.add_det-add_sorted-requires
add_det-add_sorted-requires t c =
    let es = laid (pairs_view c.in-Map.pairs.items) in
    let lengths : c.in_ok-lengths-in-Map.lengths.items ≡ lengths_of es = c.in_ok-lengths-in-Map.ensures.lengths in
    let bytes : c.as_slice-in-Map-2.result.now ≡ joined es = c.as_slice-in-Map-2.ensures.value ∙ (c.in_ok-lengths-in-Map.ensures.bytes ∙ ap (λ b. b ++ joined es) c.new-bytes.ensures.items) in
    let all : total (lengths_of es) ≡ length (joined es) = total_joined es in
    subst (λ ls. total ls ≤ length c.as_slice-in-Map-2.result.now) (sym lengths) (subst (λ b. total (lengths_of es) ≤ length b) (sym bytes) (omega arith))

pub add_det-returns-in_ok-lengths-in-Map : goal.add_det-returns-in_ok-lengths-in-Map
add_det-returns-in_ok-lengths-in-Map t c =
    let ps = c.in-Map.pairs.items in
    let es = laid (pairs_view ps) in
    let old = c.args.out.now.items in
    let mid = c.add_head-in-Map.new.out.items in
    let known = map_known c.args.item.now c.in-Map.pairs c.in-Map.is c.requires.plain c.requires.valid in
    let len : c.len-in-Map.result ≡ length ps = search rules in
    let head : shortest_head 5 c.len-in-Map.result ≡ shortest_head 5 (pairs_len (pairs_view ps)) = ap (shortest_head 5) (len ∙ sym (pairs_len-view ps)) in
    let lengths : c.in_ok-lengths-in-Map.lengths.items ≡ lengths_of es = c.in_ok-lengths-in-Map.ensures.lengths in
    let bytes : c.as_slice-in-Map-2.result.now ≡ joined es = c.as_slice-in-Map-2.ensures.value ∙ (c.in_ok-lengths-in-Map.ensures.bytes ∙ ap (λ b. b ++ joined es) c.new-bytes.ensures.items) in
    let are : cut c.in_ok-lengths-in-Map.lengths.items c.as_slice-in-Map-2.result.now ≡ es = ap₂ cut lengths bytes ∙ cut_joined es in
    ok_then c.add_sorted.result (λ h. added_map c.args.item.now c.in-Map.pairs old mid c.add_sorted.new.out.items c.in-Map.is (c.in_ok-add_head-in-Map.ensures ∙ ap (λ b. old ++ b) head) (h (pairs_view ps) known.plain known.valid are)) c.add_sorted.ensures

pub add_det-returns-in_ok-add_head-in-Tag : goal.add_det-returns-in_ok-add_head-in-Tag
add_det-returns-in_ok-add_head-in-Tag t c =
    let n = c.in-Tag.number in
    let x = c.in-Tag.content in
    let old = c.args.out.now.items in
    let mid = c.add_head-in-Tag.new.out.items in
    let new = c.add_det.new.out.items in
    ok_then c.add_det.result (λ h. added_tag c.args.item.now n x old mid new c.in-Tag.is c.in_ok-add_head-in-Tag.ensures (h ∙ ap (λ i. mid ++ deterministic (view i)) c.deref.ensures)) c.add_det.ensures

pub add_members-loop-item-init : goal.add_members-loop-item-init
add_members-loop-item-init t c =
    let same = c.deref-item-items.ensures.value in
    record {
      plain = subst (λ zs. ArePlain (values_view zs)) (sym same) c.requires.plain;
      apart = subst (λ zs. HasKeysApart (array (values_view zs))) (sym same) (valid_apart (array (values_view c.args.items.now.items)) c.requires.valid);
      sofar = refl;
    }

pub add_members-add_det-requires : goal.add_members-add_det-requires
add_members-add_det-requires t c =
    let ys = c.deref-item-items.result.now in
    let x = view c.item-item.result in
    let rest = values_view (drop (c.loop-item.item-index + 1) ys) in
    let seen = values_view-drop ys c.loop-item.item-index c.item-item.result (omega arith) c.item-item.is in
    let plain = plain_first x rest (subst ArePlain seen c.loop-item.invariant.plain) in
    let apart : HasKeysApart (array (value x rest)) = subst (λ vs. HasKeysApart (array vs)) seen c.loop-item.invariant.apart in
    let less : the_size c.item-item.result ≤ most the_size c.args.items.now.items = size-within c.args.items.now.items ys c.loop-item.item-index c.item-item.result (omega arith) c.item-item.is c.deref-item-items.ensures.value in
    (omega (arith, less), (plain.0, apart_valid x apart.0))

pub add_pairs-loop-key-init : goal.add_pairs-loop-key-init
add_pairs-loop-key-init t c =
    let same = c.deref-key-items.ensures.value in
    record {
      plain = subst (λ zs. ArePairsPlain (pairs_view zs)) (sym same) c.requires.plain;
      apart = subst (λ zs. HasKeysApart (pairs (pairs_view zs))) (sym same) (valid_apart (pairs (pairs_view c.args.pairs.now.items)) c.requires.valid);
      sofar = refl;
    }

pub add_pairs-add_det-requires : goal.add_pairs-add_det-requires
add_pairs-add_det-requires t c =
    let ys = c.deref-key-items.result.now in
    let p = c.loop-key-item.result in
    let k = view p.0 in
    let v = view p.1 in
    let rest = pairs_view (drop (c.loop-key.key-index + 1) ys) in
    let first = pairs_view-drop ys c.loop-key.key-index p (omega arith) c.loop-key-item.is in
    let plain = plain_pair k v rest (subst ArePairsPlain first c.loop-key.invariant.plain) in
    let apart : HasKeysApart (pairs (pair k v rest)) = subst (λ ps. HasKeysApart (pairs ps)) first c.loop-key.invariant.apart in
    let less : pair_size p ≤ most (weighed-Item-Map-0-at-2.weight Item the_size) c.args.pairs.now.items = pair_size-within c.args.pairs.now.items _ c.loop-key.key-index p (omega arith) c.loop-key-item.is c.deref-key-items.ensures.value in
    (omega (arith, less), (plain.0, apart_valid k apart.1))

pub add_pairs-add_det-requires-in-loop-key : goal.add_pairs-add_det-requires-in-loop-key
add_pairs-add_det-requires-in-loop-key t c =
    let ys = c.deref-key-items.result.now in
    let p = c.loop-key-item.result in
    let k = view p.0 in
    let v = view p.1 in
    let rest = pairs_view (drop (c.loop-key.key-index + 1) ys) in
    let first = pairs_view-drop ys c.loop-key.key-index p (omega arith) c.loop-key-item.is in
    let plain = plain_pair k v rest (subst ArePairsPlain first c.loop-key.invariant.plain) in
    let apart : HasKeysApart (pairs (pair k v rest)) = subst (λ ps. HasKeysApart (pairs ps)) first c.loop-key.invariant.apart in
    let less : pair_size p ≤ most (weighed-Item-Map-0-at-2.weight Item the_size) c.args.pairs.now.items = pair_size-within c.args.pairs.now.items _ c.loop-key.key-index p (omega arith) c.loop-key-item.is c.deref-key-items.ensures.value in
    (omega (arith, less), (plain.1, apart_valid v apart.2))

pub lay_out-loop-key-init : goal.lay_out-loop-key-init
lay_out-loop-key-init t c =
    let same = c.deref-key-items.ensures.value in
    record {
      plain = subst (λ zs. ArePairsPlain (pairs_view zs)) (sym same) c.requires.plain;
      apart = subst (λ zs. HasKeysApart (pairs (pairs_view zs))) (sym same) (valid_apart (pairs (pairs_view c.args.pairs.now.items)) c.requires.valid);
      lengths = ap (λ ls. ls ++ lengths_of (laid (pairs_view c.deref-key-items.result.now))) c.in_ok-lengths.ensures.items;
      sofar = refl;
    }

pub lay_out-add_det-requires : goal.lay_out-add_det-requires
lay_out-add_det-requires t c =
    let ys = c.deref-key-items.result.now in
    let p = c.loop-key-item.result in
    let k = view p.0 in
    let v = view p.1 in
    let rest = pairs_view (drop (c.loop-key.key-index + 1) ys) in
    let first = pairs_view-drop ys c.loop-key.key-index p (omega arith) c.loop-key-item.is in
    let plain = plain_pair k v rest (subst ArePairsPlain first c.loop-key.invariant.plain) in
    let apart : HasKeysApart (pairs (pair k v rest)) = subst (λ ps. HasKeysApart (pairs ps)) first c.loop-key.invariant.apart in
    let less : pair_size p ≤ most (weighed-Item-Map-0-at-2.weight Item the_size) c.args.pairs.now.items = pair_size-within c.args.pairs.now.items _ c.loop-key.key-index p (omega arith) c.loop-key-item.is c.deref-key-items.ensures.value in
    (omega (arith, less), (plain.0, apart_valid k apart.1))

pub lay_out-add_det-requires-in-loop-key : goal.lay_out-add_det-requires-in-loop-key
lay_out-add_det-requires-in-loop-key t c =
    let ys = c.deref-key-items.result.now in
    let p = c.loop-key-item.result in
    let k = view p.0 in
    let v = view p.1 in
    let rest = pairs_view (drop (c.loop-key.key-index + 1) ys) in
    let first = pairs_view-drop ys c.loop-key.key-index p (omega arith) c.loop-key-item.is in
    let plain = plain_pair k v rest (subst ArePairsPlain first c.loop-key.invariant.plain) in
    let apart : HasKeysApart (pairs (pair k v rest)) = subst (λ ps. HasKeysApart (pairs ps)) first c.loop-key.invariant.apart in
    let less : pair_size p ≤ most (weighed-Item-Map-0-at-2.weight Item the_size) c.args.pairs.now.items = pair_size-within c.args.pairs.now.items _ c.loop-key.key-index p (omega arith) c.loop-key-item.is c.deref-key-items.ensures.value in
    (omega (arith, less), (plain.1, apart_valid v apart.2))

pub lay_out-loop-key-preserved : goal.lay_out-loop-key-preserved
lay_out-loop-key-preserved t c =
    let l = c.loop-key in
    let ys = c.deref-key-items.result.now in
    let p = c.loop-key-item.result in
    let k = deterministic (view p.0) in
    let v = deterministic (view p.1) in
    let rest = pairs_view (drop (l.key-index + 1) ys) in
    let b0 = l.bytes.items in
    let b1 = c.add_det.new.out.items in
    let b2 = c.add_det-in-loop-key.new.out.items in
    let x : ℕ × ℕ = (c.len-middle.result - c.len-start.result, c.len-in-loop-key.result - c.len-middle.result) in
    let first : pairs_view (drop l.key-index ys) ≡ pair (view p.0) (view p.1) rest = pairs_view-drop ys l.key-index p (omega arith) c.loop-key-item.is in
    let one : b1 ≡ b0 ++ k = c.in_ok-add_det.ensures in
    let two : b2 ≡ b1 ++ v = c.in_ok-add_det-2.ensures in
    let start : c.len-start.result ≡ length b0 = search rules in
    let middle : c.len-middle.result ≡ length b1 = search rules in
    let end : c.len-in-loop-key.result ≡ length b2 = search rules in
    let of_key : length b1 ≡ length b0 + length k = ap length one ∙ length-append b0 k in
    let of_value : length b2 ≡ length b1 + length v = ap length two ∙ length-append b1 v in
    let same : x ≡ (length k, length v) = ap₂ (λ (a b : ℕ). (a, b)) (omega arith) (omega arith) in
    record {
      plain = (plain_pair (view p.0) (view p.1) rest (subst ArePairsPlain first l.invariant.plain)).2;
      apart = (let a : HasKeysApart (pairs (pair (view p.0) (view p.1) rest)) = subst (λ ps. HasKeysApart (pairs ps)) first l.invariant.apart in a.3);
      lengths = ap (λ ls. ls ++ lengths_of (laid rest)) c.in_ok-push.ensures.items ∙ (append_assoc l.lengths.items (x ∷ []) (lengths_of (laid rest))
          ∙ (ap (λ (y : ℕ × ℕ). l.lengths.items ++ y ∷ lengths_of (laid rest)) same ∙ (ap (λ zs. l.lengths.items ++ lengths_of (laid zs)) (sym first) ∙ l.invariant.lengths)));
      sofar = ap (λ b. b ++ joined (laid rest)) (two ∙ ap (λ b. b ++ v) one) ∙ (append_assoc (b0 ++ k) v (joined (laid rest))
          ∙ (append_assoc b0 k (v ++ joined (laid rest)) ∙ (ap (λ zs. b0 ++ joined (laid zs)) (sym first) ∙ l.invariant.sofar)));
    }
