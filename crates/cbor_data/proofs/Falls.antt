-- Items that are the same fall into one order, if their keys are apart.
use Rattle.std.proofs.Common.{◌≡◌, ◌≢◌, refl, sym, ap, ap₂, ◌∙◌}
use Rattle.cbor_data.specs.Value.{Value, array, pairs, tag, Values, value, Pairs}
use Rattle.cbor_data.specs.Equivalence.{IsAdded, first, later, IsSame, same_uint, same_nint, same_bytes, same_text, same_array, same_map, same_tag, same_simple, same_float, AreSame, no_members, member, ArePairsSame, no_more, one_more}
use Rattle.cbor_data.specs.Deterministic.{put, ordered, values_ordered, pairs_ordered, deterministic}
use Rattle.cbor_data.specs.Writable.{IsWritable}
use Rattle.cbor_data.proofs.EquivalenceLaws.{back}
use Rattle.cbor_data.proofs.Keeps.{AreWritable, ArePairsWritable, array_parts, map_parts, tag_part, member_part, members_part, key_part, rest_part, added_to}
use Rattle.cbor_data.proofs.ByDeterministic.{same_by_deterministic}
use Rattle.cbor_data.proofs.ByteOrder.{swap}
use Rattle.cbor_data.proofs.Apart.{HasKeysApart, HaveKeysApart, AreKeysApart, apart_without, from_added}

-- wherever a pair was added, it is put at its own place
added_put : {k v : Value} {ps qs : Pairs} → IsAdded k v ps qs → ArePairsWritable qs → AreKeysApart qs → pairs_ordered qs ≡ put (ordered k) (ordered v) (pairs_ordered ps)
added_put first w h = refl
added_put {k = k} {v = v} (later {l = l} {w = u} {ps = ps} a) w h =
    let t = added_to a (rest_part w) in
    let f = from_added a h.0 in
    let differ : deterministic l ≢ deterministic k = λ e. f.0 (back (same_by_deterministic l k (key_part w) t.key e)) in
    ap (put (ordered l) (ordered u)) (added_put a (rest_part w) h.3) ∙ swap (ordered l) (ordered u) (ordered k) (ordered v) (pairs_ordered ps) differ

mutual
  pub one_order : {x y : Value} → IsSame x y → IsWritable y → HasKeysApart y → ordered x ≡ ordered y
  one_order same_uint w h = refl
  one_order same_nint w h = refl
  one_order same_bytes w h = refl
  one_order same_text w h = refl
  one_order (same_array d) w h = ap array (all_in_order d (array_parts w) h)
  one_order (same_map d) w h = ap pairs (pairs_in_order d (map_parts w) h)
  one_order (same_tag {n = n} d) w h = ap (tag n) (one_order d (tag_part w) h)
  one_order same_simple w h = refl
  one_order same_float w h = refl

  all_in_order : {xs ys : Values} → AreSame xs ys → AreWritable ys → HaveKeysApart ys → values_ordered xs ≡ values_ordered ys
  all_in_order no_members w h = refl
  all_in_order (member d e) w h = ap₂ value (one_order d (member_part w) h.0) (all_in_order e (members_part w) h.1)

  pairs_in_order : {ps qs : Pairs} → ArePairsSame ps qs → ArePairsWritable qs → AreKeysApart qs → pairs_ordered ps ≡ pairs_ordered qs
  pairs_in_order no_more w h = refl
  pairs_in_order (one_more {k = k} {v = v} {l = l} {w = u} {ps = ps} d e a r) w h =
      let t = added_to a w in
      let f = apart_without a h in
      ap₂ (λ i j. put i j (pairs_ordered ps)) (one_order d t.key f.key) (one_order e t.held f.held)
      ∙ (ap (put (ordered l) (ordered u)) (pairs_in_order r t.rest f.rest) ∙ sym (added_put a w h))
