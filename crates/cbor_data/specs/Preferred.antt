-- The preferred bytes of an item (RFC 8949 section 4.1): shortest heads, definite lengths, pairs in the item's order,
-- and a float in its own width.
use Rattle.std.specs.Prelude.{ℕ, ◌+◌, ◌*◌, ◌^◌, ◌<◌, List, [], ◌∷◌, ◌++◌, length, nat_lt, if◌then◌else◌}
use Rattle.std.specs.Int.{w8, w16, w32, w64, to_be_bytes}
use Rattle.cbor_data.specs.declared.Width.{Width}
use Rattle.cbor_data.specs.declared.Width.TheVariants.{W16, W32, W64}
use Rattle.cbor_data.specs.Value.{Value, uint, nint, bytes, text, array, pairs, tag, simple, float, Values, no_values, value, Pairs, no_pairs, pair, values_len, pairs_len}

-- the initial byte of a major type and additional information (RFC 8949 section 3)
abbrev pub initial : ℕ → ℕ → ℕ
initial major info = 32 * major + info

-- the shortest head of a major type with an argument below 2^64
abbrev pub shortest_head : ℕ → ℕ → List ℕ
shortest_head major n =
    if nat_lt n 24 then initial major n ∷ []
    else (if nat_lt n (2 ^ 8) then initial major 24 ∷ to_be_bytes w8 n
    else (if nat_lt n (2 ^ 16) then initial major 25 ∷ to_be_bytes w16 n
    else (if nat_lt n (2 ^ 32) then initial major 26 ∷ to_be_bytes w32 n
    else initial major 27 ∷ to_be_bytes w64 n)))

abbrev pub simple_bytes : ℕ → List ℕ
simple_bytes n = if nat_lt n 24 then initial 7 n ∷ [] else initial 7 24 ∷ n ∷ []

abbrev pub float_bytes : Width → ℕ → List ℕ
float_bytes W16 n = initial 7 25 ∷ to_be_bytes w16 n
float_bytes W32 n = initial 7 26 ∷ to_be_bytes w32 n
float_bytes W64 n = initial 7 27 ∷ to_be_bytes w64 n

abbrev mutual
  pub preferred : Value → List ℕ
  preferred (uint n) = shortest_head 0 n
  preferred (nint n) = shortest_head 1 n
  preferred (bytes bs) = shortest_head 2 (length bs) ++ bs
  preferred (text bs) = shortest_head 3 (length bs) ++ bs
  preferred (array xs) = shortest_head 4 (values_len xs) ++ values_preferred xs
  preferred (pairs ps) = shortest_head 5 (pairs_len ps) ++ pairs_preferred ps
  preferred (tag n x) = shortest_head 6 n ++ preferred x
  preferred (simple n) = simple_bytes n
  preferred (float w n) = float_bytes w n

  pub values_preferred : Values → List ℕ
  values_preferred no_values = []
  values_preferred (value x xs) = preferred x ++ values_preferred xs

  pub pairs_preferred : Pairs → List ℕ
  pairs_preferred no_pairs = []
  pairs_preferred (pair k v ps) = preferred k ++ (preferred v ++ pairs_preferred ps)

-- each string is shorter than 2^64 bytes, and each array and map has fewer members
abbrev mutual
  pub AreCountsShort : Value → Type 0
  AreCountsShort (bytes s) = length s < 2 ^ 64
  AreCountsShort (text s) = length s < 2 ^ 64
  AreCountsShort (array xs) = (values_len xs < 2 ^ 64) × AreValueCountsShort xs
  AreCountsShort (pairs ps) = (pairs_len ps < 2 ^ 64) × ArePairCountsShort ps
  AreCountsShort (tag n x) = AreCountsShort x
  AreCountsShort _ = Unit {0}

  pub AreValueCountsShort : Values → Type 0
  AreValueCountsShort no_values = Unit {0}
  AreValueCountsShort (value x xs) = AreCountsShort x × AreValueCountsShort xs

  pub ArePairCountsShort : Pairs → Type 0
  ArePairCountsShort no_pairs = Unit {0}
  ArePairCountsShort (pair k v ps) = AreCountsShort k × AreCountsShort v × ArePairCountsShort ps
