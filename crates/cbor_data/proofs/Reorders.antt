-- An item is the same as the one in order.
use Rattle.std.proofs.Common.{Bool, true, false, cond}
use Rattle.cbor_data.specs.Value.{Value, uint, nint, bytes, text, array, pairs, tag, simple, float, Values, no_values, value, Pairs, no_pairs, pair}
use Rattle.cbor_data.specs.Equivalence.{IsAdded, first, later, IsSame, same_uint, same_nint, same_bytes, same_text, same_array, same_map, same_tag, same_simple, same_float, AreSame, no_members, member, ArePairsSame, no_more, one_more}
use Rattle.cbor_data.specs.Deterministic.{comes_before, put, ordered, values_ordered, pairs_ordered}

put_either : {k v l w : Value} {ps qs : Pairs} (b : Bool) → IsAdded k v ps qs → IsAdded k v (pair l w ps) (cond b (pair k v (pair l w ps)) (pair l w qs))
put_either true a = first
put_either false a = later a

pub put_added : (k v : Value) (ps : Pairs) → IsAdded k v ps (put k v ps)
put_added k v no_pairs = first
put_added k v (pair l w ps) = put_either (comes_before k l) (put_added k v ps)

mutual
  pub same_ordered : (x : Value) → IsSame x (ordered x)
  same_ordered (uint n) = same_uint
  same_ordered (nint n) = same_nint
  same_ordered (bytes b) = same_bytes
  same_ordered (text b) = same_text
  same_ordered (array xs) = same_array (all_ordered xs)
  same_ordered (pairs ps) = same_map (pairs_same_ordered ps)
  same_ordered (tag n x) = same_tag (same_ordered x)
  same_ordered (simple n) = same_simple
  same_ordered (float w n) = same_float

  pub all_ordered : (xs : Values) → AreSame xs (values_ordered xs)
  all_ordered no_values = no_members
  all_ordered (value x xs) = member (same_ordered x) (all_ordered xs)

  pub pairs_same_ordered : (ps : Pairs) → ArePairsSame ps (pairs_ordered ps)
  pairs_same_ordered no_pairs = no_more
  pairs_same_ordered (pair k v ps) = one_more (same_ordered k) (same_ordered v) (put_added (ordered k) (ordered v) (pairs_ordered ps)) (pairs_same_ordered ps)
