-- Which items are the same: they have the same form and the same parts, and the order of the pairs of a map plays no part,
-- at any depth (RFC 8949 section 5.6.1). Floats are the same if they have the same width and the same bits.
use Rattle.std.specs.Prelude.{ℕ, List}
use Rattle.cbor_data.specs.declared.Width.{Width}
use Rattle.cbor_data.specs.Value.{Value, uint, nint, bytes, text, array, pairs, tag, simple, float, Values, no_values, value, Pairs, no_pairs, pair}

-- `IsAdded k v ps qs`: qs are the pairs ps, in their order, and the pair of k and v at one place among them.
pub data IsAdded (k v : Value) : Pairs → Pairs → Type 0 where
  first : {ps : Pairs} → IsAdded k v ps (pair k v ps)
  later : {l w : Value} {ps qs : Pairs} → IsAdded k v ps qs → IsAdded k v (pair l w ps) (pair l w qs)

mutual
  pub data IsSame : Value → Value → Type 0 where
    same_uint : {n : ℕ} → IsSame (uint n) (uint n)
    same_nint : {n : ℕ} → IsSame (nint n) (nint n)
    same_bytes : {b : List ℕ} → IsSame (bytes b) (bytes b)
    same_text : {b : List ℕ} → IsSame (text b) (text b)
    same_array : {xs ys : Values} → AreSame xs ys → IsSame (array xs) (array ys)
    same_map : {ps qs : Pairs} → ArePairsSame ps qs → IsSame (pairs ps) (pairs qs)
    same_tag : {n : ℕ} {x y : Value} → IsSame x y → IsSame (tag n x) (tag n y)
    same_simple : {n : ℕ} → IsSame (simple n) (simple n)
    same_float : {w : Width} {n : ℕ} → IsSame (float w n) (float w n)

  -- as many members, each the same as the other's at its place
  pub data AreSame : Values → Values → Type 0 where
    no_members : AreSame no_values no_values
    member : {x y : Value} {xs ys : Values} → IsSame x y → AreSame xs ys → AreSame (value x xs) (value y ys)

  -- As many pairs: the first of the ones has the same key and the same value as a pair at some place among the others, and
  -- the rest of the ones are the same as the others without that pair.
  pub data ArePairsSame : Pairs → Pairs → Type 0 where
    no_more : ArePairsSame no_pairs no_pairs
    one_more : {k v l w : Value} {ps qs others : Pairs} → IsSame k l → IsSame v w → IsAdded l w qs others → ArePairsSame ps qs → ArePairsSame (pair k v ps) others
