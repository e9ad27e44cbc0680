-- The deterministic bytes of an item (RFC 8949 section 4.2.1): preferred bytes, with the pairs of each map in the bytewise
-- order of the deterministic bytes of their keys.
use Rattle.std.specs.Prelude.{◌≡◌, ℕ, List, if◌then◌else◌, Bool}
use Rattle.std.specs.Ordering.{nat_cmp, is_lt}
use Rattle.std.specs.Cmp.Lexicographic.{slice_cmp}
use Rattle.std.specs.declared.cmp.Ordering.TheVariants.{Less}
use Rattle.cbor_data.specs.Value.{Value, uint, nint, bytes, text, array, pairs, tag, simple, float, Values, no_values, value, Pairs, no_pairs, pair}
use Rattle.cbor_data.specs.Preferred.{preferred}

-- The preferred bytes of k come before those of l: at the first place where they differ k's byte is less, or k's end there.
abbrev pub comes_before : Value → Value → Bool
comes_before k l = is_lt (slice_cmp nat_cmp (preferred k) (preferred l))

-- The pair of k and v is put among pairs: before the first of them whose key k comes before, or else at the end.
abbrev pub put : Value → Value → Pairs → Pairs
put k v no_pairs = pair k v no_pairs
put k v (pair l w ps) = if comes_before k l then pair k v (pair l w ps) else pair l w (put k v ps)

-- the same item with the pairs of each map put in order, one after the other
abbrev mutual
  pub ordered : Value → Value
  ordered (uint n) = uint n
  ordered (nint n) = nint n
  ordered (bytes b) = bytes b
  ordered (text b) = text b
  ordered (array xs) = array (values_ordered xs)
  ordered (pairs ps) = pairs (pairs_ordered ps)
  ordered (tag n x) = tag n (ordered x)
  ordered (simple n) = simple n
  ordered (float w n) = float w n

  pub values_ordered : Values → Values
  values_ordered no_values = no_values
  values_ordered (value x xs) = value (ordered x) (values_ordered xs)

  pub pairs_ordered : Pairs → Pairs
  pairs_ordered no_pairs = no_pairs
  pairs_ordered (pair k v ps) = put (ordered k) (ordered v) (pairs_ordered ps)

-- the deterministic bytes: the preferred bytes of the item in order
abbrev pub deterministic : Value → List ℕ
deterministic x = preferred (ordered x)

-- The preferred bytes of k come before those of each key of these pairs.
abbrev pub ComesBeforeAll : Value → Pairs → Type 0
ComesBeforeAll k no_pairs = Unit {0}
ComesBeforeAll k (pair l w ps) = (slice_cmp nat_cmp (preferred k) (preferred l) ≡ Less) × ComesBeforeAll k ps

-- In each map the preferred bytes of each key come before those of all later ones.
abbrev mutual
  pub IsRising : Value → Type 0
  IsRising (array xs) = AreRising xs
  IsRising (pairs ps) = ArePairsRising ps
  IsRising (tag n x) = IsRising x
  IsRising _ = Unit {0}

  pub AreRising : Values → Type 0
  AreRising no_values = Unit {0}
  AreRising (value x xs) = IsRising x × AreRising xs

  pub ArePairsRising : Pairs → Type 0
  ArePairsRising no_pairs = Unit {0}
  ArePairsRising (pair k v ps) = ComesBeforeAll k ps × IsRising k × IsRising v × ArePairsRising ps
