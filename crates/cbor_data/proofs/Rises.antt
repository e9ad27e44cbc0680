-- In the order of their bytes the keys of each map rise, and there is one such order.
use Rattle.std.proofs.Common.{◌≡◌, ◌≢◌, inl, inr, refl, sym, ap, ap₂, ◌∙◌, subst}
use Rattle.cbor_data.specs.Value.{Value, uint, nint, bytes, text, array, pairs, tag, simple, float, Values, no_values, value, Pairs, no_pairs, pair}
use Rattle.cbor_data.specs.Preferred.{preferred}
use Rattle.cbor_data.specs.Equivalence.{IsAdded, first, later}
use Rattle.cbor_data.specs.Deterministic.{put, ordered, values_ordered, pairs_ordered, ComesBeforeAll, IsRising, AreRising, ArePairsRising}
use Rattle.cbor_data.specs.Writable.{IsWritable}
use Rattle.cbor_data.proofs.EquivalenceLaws.{back}
use Rattle.cbor_data.proofs.Reorders.{put_added}
use Rattle.cbor_data.proofs.Keeps.{AreWritable, ArePairsWritable, array_parts, map_parts, tag_part, member_part, members_part, key_part, held_part, rest_part}
use Rattle.cbor_data.proofs.ByDeterministic.{same_by_deterministic}
use Rattle.cbor_data.proofs.ByteOrder.{IsBefore, before_back, before_on, one_before, before_true, put_first, put_here, put_after}
use Rattle.cbor_data.proofs.Apart.{IsApartFrom, HasKeysApart, HaveKeysApart, AreKeysApart}

-- the bytes of k are not those of one of these keys
abbrev pub DiffersFrom : Value → Pairs → Type 0
DiffersFrom k no_pairs = Unit {0}
DiffersFrom k (pair l w ps) = (preferred k ≢ preferred l) × DiffersFrom k ps

added_differs : (m : Value) {k v : Value} {ps qs : Pairs} → IsAdded k v ps qs → preferred m ≢ preferred k → DiffersFrom m ps → DiffersFrom m qs
added_differs m first n h = (n, h)
added_differs m (later a) n h = (h.0, added_differs m a n h.1)

added_before : (m : Value) {k v : Value} {ps qs : Pairs} → IsAdded k v ps qs → IsBefore m k → ComesBeforeAll m ps → ComesBeforeAll m qs
added_before m first b h = (b, h)
added_before m (later a) b h = (h.0, added_before m a b h.1)

before_all : (k l : Value) (ps : Pairs) → IsBefore k l → ComesBeforeAll l ps → ComesBeforeAll k ps
before_all k l no_pairs b h = tt
before_all k l (pair m u ps) b h = (before_on k l m b h.0, before_all k l ps b h.1)

put_rising : (k v : Value) (ps : Pairs) → IsRising k → IsRising v → ArePairsRising ps → DiffersFrom k ps → ArePairsRising (put k v ps)
put_rising k v no_pairs r s h d = (tt, r, s, tt)
put_rising k v (pair l w ps) r s h d = elim (one_before k l d.0) [
  | inl b ↦ subst ArePairsRising (sym (put_here k v l w ps (before_true k l b))) ((b, before_all k l ps b h.0), r, s, h)
  | inr b ↦ subst ArePairsRising (sym (put_after k v l w ps (before_back l k b))) (added_before l (put_added k v ps) b h.0, h.1, h.2, put_rising k v ps r s h.3 d.1)
]

differs : (k : Value) (ps : Pairs) → IsWritable k → ArePairsWritable ps → IsApartFrom k ps → DiffersFrom (ordered k) (pairs_ordered ps)
differs k no_pairs w ws h = tt
differs k (pair l u ps) w ws h = added_differs (ordered k) (put_added (ordered l) (ordered u) (pairs_ordered ps)) (λ e. h.0 (back (same_by_deterministic k l w (key_part ws) e))) (differs k ps w (rest_part ws) h.1)

mutual
  pub rising : (x : Value) → IsWritable x → HasKeysApart x → IsRising (ordered x)
  rising (uint n) w h = tt
  rising (nint n) w h = tt
  rising (bytes b) w h = tt
  rising (text b) w h = tt
  rising (array xs) w h = all_rising xs (array_parts w) h
  rising (pairs ps) w h = pairs_rising ps (map_parts w) h
  rising (tag n x) w h = rising x (tag_part w) h
  rising (simple n) w h = tt
  rising (float v n) w h = tt

  all_rising : (xs : Values) → AreWritable xs → HaveKeysApart xs → AreRising (values_ordered xs)
  all_rising no_values w h = tt
  all_rising (value x xs) w h = (rising x (member_part w) h.0, all_rising xs (members_part w) h.1)

  pairs_rising : (ps : Pairs) → ArePairsWritable ps → AreKeysApart ps → ArePairsRising (pairs_ordered ps)
  pairs_rising no_pairs w h = tt
  pairs_rising (pair k v ps) w h =
      put_rising (ordered k) (ordered v) (pairs_ordered ps) (rising k (key_part w) h.1) (rising v (held_part w) h.2) (pairs_rising ps (rest_part w) h.3) (differs k ps (key_part w) (rest_part w) h.0)

-- what is in order stays as it is
mutual
  pub in_order : (x : Value) → IsRising x → ordered x ≡ x
  in_order (uint n) r = refl
  in_order (nint n) r = refl
  in_order (bytes b) r = refl
  in_order (text b) r = refl
  in_order (array xs) r = ap array (all_in_order xs r)
  in_order (pairs ps) r = ap pairs (pairs_in_order ps r)
  in_order (tag n x) r = ap (tag n) (in_order x r)
  in_order (simple n) r = refl
  in_order (float v n) r = refl

  all_in_order : (xs : Values) → AreRising xs → values_ordered xs ≡ xs
  all_in_order no_values r = refl
  all_in_order (value x xs) r = ap₂ value (in_order x r.0) (all_in_order xs r.1)

  pairs_in_order : (ps : Pairs) → ArePairsRising ps → pairs_ordered ps ≡ ps
  pairs_in_order no_pairs r = refl
  pairs_in_order (pair k v ps) r =
      ap₂ (λ i j. put i j (pairs_ordered ps)) (in_order k r.1) (in_order v r.2) ∙ (ap (put k v) (pairs_in_order ps r.3) ∙ put_first k v ps r.0)
