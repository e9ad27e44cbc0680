use Rattle.std.proofs.Common.{◌≡◌, length, refl, sym, ap, ◌∙◌, rules, string_bytes, ◌++◌, inl, inr}
use Rattle.cbor_data.specs.Preferred.{preferred, shortest_head, values_preferred, pairs_preferred}
use Rattle.cbor_data.specs.Value.{array, pairs, values_len, pairs_len}
use Rattle.cbor_item.specs.Length.{capped_sum}
use Rattle.item_nodes.specs.View.{view, values_view, pairs_view}
use Rattle.cbor_item.proofs.Counts.{capped-append, capped_string, capped-none}
use Rattle.item_nodes.proofs.Lemmas.{view-Uint, view-Nint, view-Bytes, view-Text, view-Tag, values_len-view, values_view-end, pairs_len-view, pairs_view-end}
use Rattle.cbor_item.proofs.length.+length.Goals as goal

pub count_bytes-returns-in-Bytes : goal.count_bytes-returns-in-Bytes
count_bytes-returns-in-Bytes t c =
    let bytes = c.in-Bytes.bytes in
    let len : c.len.result ≡ length bytes.items = search rules in
    capped_string c.args.before c.len.result (shortest_head 2 c.len.result) bytes.items len (c.count_string.ensures 2)
    ∙ ap (λ n. capped_sum c.args.before (length (shortest_head 2 n ++ bytes.items))) len
    ∙ ap (λ v. capped_sum c.args.before (length (preferred v))) (sym (view-Bytes bytes)) ∙ ap (λ i. capped_sum c.args.before (length (preferred (view i)))) (sym c.in-Bytes.is)

pub count_bytes-returns-in-Text : goal.count_bytes-returns-in-Text
count_bytes-returns-in-Text t c =
    let bytes = string_bytes c.in-Text.text in
    let len : c.len-in-Text.result ≡ length bytes = search rules in
    capped_string c.args.before c.len-in-Text.result (shortest_head 3 c.len-in-Text.result) bytes len (c.count_string-in-Text.ensures 3)
    ∙ ap (λ n. capped_sum c.args.before (length (shortest_head 3 n ++ bytes))) len
    ∙ ap (λ v. capped_sum c.args.before (length (preferred v))) (sym (view-Text c.in-Text.text)) ∙ ap (λ i. capped_sum c.args.before (length (preferred (view i)))) (sym c.in-Text.is)

pub count_bytes-returns-in-Tag : goal.count_bytes-returns-in-Tag
count_bytes-returns-in-Tag t c =
    let head = shortest_head 6 c.in-Tag.number in
    capped-append c.args.before head (preferred (view c.deref.result.now)) (c.count_head.ensures 6) c.count_bytes.ensures
    ∙ ap (λ i. capped_sum c.args.before (length (head ++ preferred (view i)))) c.deref.ensures
    ∙ ap (λ v. capped_sum c.args.before (length (preferred v))) (sym (view-Tag c.in-Tag.number c.in-Tag.content)) ∙ ap (λ i. capped_sum c.args.before (length (preferred (view i)))) (sym c.in-Tag.is)

pub count_bytes-returns-in-Uint : goal.count_bytes-returns-in-Uint
count_bytes-returns-in-Uint t c = elim c.in-Uint.is [
  | inl is ↦ c.count_head-in-Uint.ensures 0 ∙ ap (λ v. capped_sum c.args.before (length (preferred v))) (sym (view-Uint c.in-Uint.n)) ∙ ap (λ i. capped_sum c.args.before (length (preferred (view i)))) (sym is)
  | inr is ↦ c.count_head-in-Uint.ensures 1 ∙ ap (λ v. capped_sum c.args.before (length (preferred v))) (sym (view-Nint c.in-Uint.n)) ∙ ap (λ i. capped_sum c.args.before (length (preferred (view i)))) (sym is)
]

pub count_members-loop-item-init : goal.count_members-loop-item-init
count_members-loop-item-init t c =
    let ys = c.deref-item-items.result.now in
    let vs = values_view ys in
    let len : c.len.result ≡ length c.args.items.now.items = search rules in
    let count = len ∙ ap length (sym c.deref-item-items.ensures.value) ∙ sym (values_len-view ys) in
    record {
      within = c.count_head-count.type_inv;
      told =
          capped-append c.args.before (shortest_head 4 (values_len vs)) (values_preferred vs)
          (c.count_head-count.ensures 4 ∙ ap (λ n. capped_sum c.args.before (length (shortest_head 4 n))) count) refl;
    }

pub count_members-returns : goal.count_members-returns
count_members-returns t c =
    let none = values_view-end c.deref-item-items.result.now c.loop-item.item-index c.loop-item-test.false in
    capped-none c.loop-item.count c.loop-item.invariant.within ∙ ap (λ vs. capped_sum c.loop-item.count (length (values_preferred vs))) (sym none) ∙ c.loop-item.invariant.told
    ∙ ap (λ ys. capped_sum c.args.before (length (preferred (array (values_view ys))))) c.deref-item-items.ensures.value

pub count_pairs-loop-key-init : goal.count_pairs-loop-key-init
count_pairs-loop-key-init t c =
    let ys = c.deref-key-items.result.now in
    let vs = pairs_view ys in
    let len : c.len.result ≡ length c.args.pairs.now.items = search rules in
    let count = len ∙ ap length (sym c.deref-key-items.ensures.value) ∙ sym (pairs_len-view ys) in
    record {
      within = c.count_head-count.type_inv;
      told =
          capped-append c.args.before (shortest_head 5 (pairs_len vs)) (pairs_preferred vs)
          (c.count_head-count.ensures 5 ∙ ap (λ n. capped_sum c.args.before (length (shortest_head 5 n))) count) refl;
    }

pub count_pairs-returns : goal.count_pairs-returns
count_pairs-returns t c =
    let none = pairs_view-end c.deref-key-items.result.now c.loop-key.key-index c.loop-key-test.false in
    capped-none c.loop-key.count c.loop-key.invariant.within ∙ ap (λ vs. capped_sum c.loop-key.count (length (pairs_preferred vs))) (sym none) ∙ c.loop-key.invariant.told
    ∙ ap (λ ys. capped_sum c.args.before (length (preferred (pairs (pairs_view ys))))) c.deref-key-items.ensures.value
