-- No item is larger than its preferred bytes.
use Rattle.std.proofs.Common.{◌≤◌, ◌++◌, length, arith, length-append}
use Rattle.cbor_data.specs.declared.Width.TheVariants.{W16, W32, W64}
use Rattle.cbor_data.specs.Value.{Value, uint, nint, bytes, text, array, pairs, tag, simple, float, Values, no_values, value, Pairs, no_pairs, pair, values_len, pairs_len}
use Rattle.cbor_data.specs.Preferred.{shortest_head, preferred, values_preferred, pairs_preferred}
use Rattle.cbor_data.proofs.Lemmas.{shortest_head_some, simple_some}
use Rattle.cddl_meaning.specs.Size.{size, values_size, pairs_size}

mutual
  pub size_preferred : (x : Value) → size x ≤ length (preferred x)
  size_preferred (uint n) = omega (arith, shortest_head_some 0 n)
  size_preferred (nint n) = omega (arith, shortest_head_some 1 n)
  size_preferred (bytes s) = omega (arith, shortest_head_some 2 (length s), length-append (shortest_head 2 (length s)) s)
  size_preferred (text s) = omega (arith, shortest_head_some 3 (length s), length-append (shortest_head 3 (length s)) s)
  size_preferred (array xs) = omega (arith, shortest_head_some 4 (values_len xs), length-append (shortest_head 4 (values_len xs)) (values_preferred xs), values_size_preferred xs)
  size_preferred (pairs ps) = omega (arith, shortest_head_some 5 (pairs_len ps), length-append (shortest_head 5 (pairs_len ps)) (pairs_preferred ps), pairs_size_preferred ps)
  size_preferred (tag n x) = omega (arith, shortest_head_some 6 n, length-append (shortest_head 6 n) (preferred x), size_preferred x)
  size_preferred (simple n) = omega (arith, simple_some n)
  size_preferred (float W16 n) = omega arith
  size_preferred (float W32 n) = omega arith
  size_preferred (float W64 n) = omega arith

  values_size_preferred : (xs : Values) → values_size xs ≤ length (values_preferred xs)
  values_size_preferred no_values = omega arith
  values_size_preferred (value x xs) = omega (arith, size_preferred x, values_size_preferred xs, length-append (preferred x) (values_preferred xs))

  pairs_size_preferred : (ps : Pairs) → pairs_size ps ≤ length (pairs_preferred ps)
  pairs_size_preferred no_pairs = omega arith
  pairs_size_preferred (pair k v ps) = omega (arith, size_preferred k, size_preferred v, pairs_size_preferred ps, length-append (preferred k) (preferred v ++ pairs_preferred ps), length-append (preferred v) (pairs_preferred ps))
