use Rattle.std.proofs.Common.{◌≡◌, ℕ, ◌+◌, ◌-◌, [], ◌∷◌, ◌++◌, Some, None, IfSome, sym, ◌∙◌, subst, arith, rules}
use Rattle.cbor_data.specs.Value.{bytes, text}
use Rattle.item_nodes.specs.View.{view}
use Rattle.item_nodes.specs.declared.item.Item.{the_lemmas}
use Rattle.read_items.specs.Whole.Parts.{IsBytesAt, IsTextAt, IsJoinedAt, IsArrayAt, IsMapAt, IsTagAt, IsItemAt, IsMemberAt}
use Rattle.read_items.proofs.OfWhole.Arguments.{small_part}
use Rattle.read_items.proofs.OfWhole.Items.{found_so, uint_item, nint_item, bytes_item, text_item, array_item, map_item, tag_item, last_item, item_moves}
use Rattle.read_items.proofs.OfWhole.Members.{AreRead, ArePairsRead, none_read, one_more, array_read, no_pairs_read, one_pair_more, map_read}
use Rattle.read_items.proofs.OfWhole.ToBreak.{bytes_in_chunks, text_in_chunks, broken_array, broken_map, end_within}
use Rattle.read_items.proofs.whole.item.+whole.Goals as goal

-- items

pub item_at-returns-in-0 : goal.item_at-returns-in-0
item_at-returns-in-0 t c =
    let r = c.argument_at-argument.result in
    uint_item c.args.depth c.args.bytes.now c.args.at r.0 r.1 _ (c.argument_at-argument.ensures (omega arith)) c.in-0.is (search (rules, the_lemmas))

pub item_at-returns-in-1 : goal.item_at-returns-in-1
item_at-returns-in-1 t c =
    let r = c.argument_at-argument.result in
    nint_item c.args.depth c.args.bytes.now c.args.at r.0 r.1 _ (c.argument_at-argument.ensures (omega arith)) c.in-1.is (search (rules, the_lemmas))

pub item_at-returns-in-2 : goal.item_at-returns-in-2
item_at-returns-in-2 t c =
    let b = c.args.bytes.now in
    let d = c.args.depth in
    let at = c.args.at in
    let h = c.argument_at-argument.result in
    found_so (λ r. IsBytesAt b h.1 h.0 (view r.0) r.1) (λ r. IsItemAt d b at (view r.0) r.1) c.byte_string.result
    (λ r s. bytes_item d b at h.0 h.1 r.1 (view r.0) (small_part b (λ i. omega (arith, c.type_inv.bytes i)) h.1) (c.argument_at-argument.ensures (omega arith)) c.in-2.is s) c.byte_string.ensures

pub item_at-returns-in-3 : goal.item_at-returns-in-3
item_at-returns-in-3 t c =
    let b = c.args.bytes.now in
    let d = c.args.depth in
    let at = c.args.at in
    let h = c.argument_at-argument.result in
    found_so (λ r. IsTextAt b h.1 h.0 (view r.0) r.1) (λ r. IsItemAt d b at (view r.0) r.1) c.text_string.result
    (λ r s. text_item d b at h.0 h.1 r.1 (view r.0) (small_part b (λ i. omega (arith, c.type_inv.bytes i)) h.1) (c.argument_at-argument.ensures (omega arith)) c.in-3.is s) c.text_string.ensures

pub item_at-returns-in-4 : goal.item_at-returns-in-4
item_at-returns-in-4 t c =
    let b = c.args.bytes.now in
    let d = c.args.depth in
    let at = c.args.at in
    let h = c.argument_at-argument.result in
    found_so (λ r. IsArrayAt d (Some h.0) b h.1 (view r.0) r.1) (λ r. IsItemAt d b at (view r.0) r.1) c.array.result
    (λ r s. array_item d b at h.0 h.1 r.1 (view r.0) (c.argument_at-argument.ensures (omega arith)) c.in-4.is s) c.array.ensures

pub item_at-returns-in-5 : goal.item_at-returns-in-5
item_at-returns-in-5 t c =
    let b = c.args.bytes.now in
    let d = c.args.depth in
    let at = c.args.at in
    let h = c.argument_at-argument.result in
    found_so (λ r. IsMapAt d (Some h.0) b h.1 (view r.0) r.1) (λ r. IsItemAt d b at (view r.0) r.1) c.map.result
    (λ r s. map_item d b at h.0 h.1 r.1 (view r.0) (c.argument_at-argument.ensures (omega arith)) c.in-5.is s) c.map.ensures

pub item_at-returns-in-6 : goal.item_at-returns-in-6
item_at-returns-in-6 t c =
    let b = c.args.bytes.now in
    let d = c.args.depth in
    let at = c.args.at in
    let h = c.argument_at-argument.result in
    found_so (λ r. IsTagAt d h.0 b h.1 (view r.0) r.1) (λ r. IsItemAt d b at (view r.0) r.1) c.tag.result
    (λ r s. tag_item d b at h.0 h.1 r.1 (view r.0) (c.argument_at-argument.ensures (omega arith)) c.in-6.is s) c.tag.ensures

pub item_at-returns-in-Some : goal.item_at-returns-in-Some
item_at-returns-in-Some t c =
    let h = c.argument_at-argument.result in
    last_item c.args.depth c.args.bytes.now c.args.at h.0 h.1 (view c.in-Some.item) (c.argument_at-argument.ensures (omega arith)) (omega (arith, c.type_inv.bytes c.args.at)) c.in-Some.ensures

-- parts up to a break

pub item_to_break-returns-in-95 : goal.item_to_break-returns-in-95
item_to_break-returns-in-95 t c =
    let b = c.args.bytes.now in
    let at = c.args.at in
    found_so (λ r. IsJoinedAt 2 bytes b (at + 1) (view r.0) r.1) (λ r. IsItemAt c.args.depth b at (view r.0) r.1) c.byte_chunks.result
    (λ r s. bytes_in_chunks c.args.depth b at r.1 (view r.0) (omega arith) c.in-95.is s) c.byte_chunks.ensures

pub item_to_break-returns-in-127 : goal.item_to_break-returns-in-127
item_to_break-returns-in-127 t c =
    let b = c.args.bytes.now in
    let at = c.args.at in
    found_so (λ r. IsJoinedAt 3 text b (at + 1) (view r.0) r.1) (λ r. IsItemAt c.args.depth b at (view r.0) r.1) c.text_chunks.result
    (λ r s. text_in_chunks c.args.depth b at r.1 (view r.0) (omega arith) c.in-127.is s) c.text_chunks.ensures

pub item_to_break-returns-in-159 : goal.item_to_break-returns-in-159
item_to_break-returns-in-159 t c =
    let b = c.args.bytes.now in
    let at = c.args.at in
    found_so (λ r. IsArrayAt c.args.depth None b (at + 1) (view r.0) r.1) (λ r. IsItemAt c.args.depth b at (view r.0) r.1) c.array.result
    (λ r s. broken_array c.args.depth b at r.1 (view r.0) (omega arith) c.in-159.is s) c.array.ensures

pub item_to_break-returns-in-191 : goal.item_to_break-returns-in-191
item_to_break-returns-in-191 t c =
    let b = c.args.bytes.now in
    let at = c.args.at in
    found_so (λ r. IsMapAt c.args.depth None b (at + 1) (view r.0) r.1) (λ r. IsItemAt c.args.depth b at (view r.0) r.1) c.map.result
    (λ r s. broken_map c.args.depth b at r.1 (view r.0) (omega arith) c.in-191.is s) c.map.ensures

-- arrays

pub array-loop-alloc-init : goal.array-loop-alloc-init
array-loop-alloc-init t c = none_read (c.args.depth - 1) c.args.bytes.now c.args.start c.new-items.result.items c.new-items.ensures.items

pub array-loop-alloc-preserved : goal.array-loop-alloc-preserved
array-loop-alloc-preserved t c =
    let d : ℕ = c.args.depth - 1 in
    let b = c.args.bytes.now in
    let end = c.in-Some.end in
    let items = c.loop-alloc.items.items in
    let after = c.push_member.new.items.items in
    let read = subst (λ f. IfSome f (λ e. IsMemberAt d b c.loop-alloc.at items after e)) c.in-Some.is c.in_ok-end.ensures in
    subst (AreRead d b c.args.start end) (sym read.more) (one_more d b c.args.start c.loop-alloc.at end items read.member c.loop-alloc.invariant read.there)

pub array-loop-alloc-smaller : goal.array-loop-alloc-smaller
array-loop-alloc-smaller t c =
    let d : ℕ = c.args.depth - 1 in
    let b = c.args.bytes.now in
    let read = subst (λ f. IfSome f (λ e. IsMemberAt d b c.loop-alloc.at c.loop-alloc.items.items c.push_member.new.items.items e)) c.in-Some.is c.in_ok-end.ensures in
    item_moves d b c.loop-alloc.at c.in-Some.end (view read.member) read.there

pub push_member-returns : goal.push_member-returns
push_member-returns t c =
    let d = c.args.depth in
    let b = c.args.bytes.now in
    let read = subst (λ f. IfSome f (λ r. IsItemAt d b c.args.at (view r.0) r.1)) c.in-Some.is c.in_ok-item.ensures in
    record { member = c.in-Some.item; there = read; more = c.in_ok-push_part.ensures }

pub array-overflow_add-result : goal.array-overflow_add-result
array-overflow_add-result t c =
    omega (arith, c.end_len.ensures, end_within c.args.count c.len.result c.args.bytes.now c.loop-alloc.at (c.is_end.ensures c.loop-alloc-test.false) (omega arith) (omega arith))

pub array-returns : goal.array-returns
array-returns t c =
    array_read c.args.depth c.args.count c.args.bytes.now c.args.start c.loop-alloc.at c.len.result c.end_len.result c.loop-alloc.items.items c.trimmed-items.result.items _ (omega arith) c.loop-alloc.invariant (c.is_end.ensures c.loop-alloc-test.false) (c.len.ensures ∙ c.loop-alloc.items.ok.0)
    c.end_len.ensures c.trimmed-items.ensures (search (rules, the_lemmas))

-- maps

pub map-loop-alloc-init : goal.map-loop-alloc-init
map-loop-alloc-init t c = no_pairs_read (c.args.depth - 1) c.args.bytes.now c.args.start c.new-pairs.result.items c.new-pairs.ensures.items

pub map-loop-alloc-preserved : goal.map-loop-alloc-preserved
map-loop-alloc-preserved t c =
    let d : ℕ = c.args.depth - 1 in
    let b = c.args.bytes.now in
    let between = c.in-Some.after_key in
    let end = c.in-Some-2.end in
    let key = subst (λ f. IfSome f (λ r. IsItemAt d b c.loop-alloc.at (view r.0) r.1)) c.in-Some.is c.in_ok-key.ensures in
    let value = subst (λ f. IfSome f (λ r. IsItemAt d b between (view r.0) r.1)) c.in-Some-2.is c.in_ok-value.ensures in
    let items : c.push_part.new.list.items ≡ c.loop-alloc.pairs.items ++ (c.in-Some.key, c.in-Some-2.value) ∷ [] = c.in_ok-push_part.ensures in
    subst (ArePairsRead d b c.args.start end) (sym items) (one_pair_more d b c.args.start c.loop-alloc.at between end c.loop-alloc.pairs.items (c.in-Some.key, c.in-Some-2.value) c.loop-alloc.invariant key value)

pub map-loop-alloc-smaller : goal.map-loop-alloc-smaller
map-loop-alloc-smaller t c =
    let d : ℕ = c.args.depth - 1 in
    let b = c.args.bytes.now in
    let between = c.in-Some.after_key in
    let key = subst (λ f. IfSome f (λ r. IsItemAt d b c.loop-alloc.at (view r.0) r.1)) c.in-Some.is c.in_ok-key.ensures in
    let value = subst (λ f. IfSome f (λ r. IsItemAt d b between (view r.0) r.1)) c.in-Some-2.is c.in_ok-value.ensures in
    omega (arith, item_moves d b c.loop-alloc.at between (view c.in-Some.key) key, item_moves d b between c.in-Some-2.end (view c.in-Some-2.value) value)

pub map-overflow_add-result : goal.map-overflow_add-result
map-overflow_add-result t c =
    omega (arith, c.end_len.ensures, end_within c.args.count c.len.result c.args.bytes.now c.loop-alloc.at (c.is_end.ensures c.loop-alloc-test.false) (omega arith) (omega arith))

pub map-returns : goal.map-returns
map-returns t c =
    map_read c.args.depth c.args.count c.args.bytes.now c.args.start c.loop-alloc.at c.len.result c.end_len.result c.loop-alloc.pairs.items c.trimmed-pairs.result.items _ (omega arith) c.loop-alloc.invariant (c.is_end.ensures c.loop-alloc-test.false) (c.len.ensures ∙ c.loop-alloc.pairs.ok.0)
    c.end_len.ensures c.trimmed-pairs.ensures (search (rules, the_lemmas))
