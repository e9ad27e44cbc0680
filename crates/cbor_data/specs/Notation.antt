-- Diagnostic notation of items (a profile of RFC 8949 section 8): how an item is shown.
use Rattle.std.specs.Prelude.{ℕ, ◌+◌, List, [], ◌∷◌, ◌++◌, ◌==◌, ◌||◌, nat_lt, if◌then◌else◌, decimal, codes, flat_map}
use Rattle.std.specs.Int.{w16, w32, w64, to_be_bytes}
use Rattle.hex.specs.Hex.{encode_lower}
use Rattle.cbor_data.specs.declared.Width.{Width}
use Rattle.cbor_data.specs.declared.Width.TheVariants.{W16, W32, W64}
use Rattle.cbor_data.specs.Value.{Value, uint, nint, bytes, text, array, pairs, tag, simple, float, Values, no_values, value, Pairs, no_pairs, pair}

-- a byte of a text: `"` and `\` after a `\`, controls as `\u` and four hex digits, all else itself
abbrev pub shown_byte : ℕ → List ℕ
shown_byte b =
    if b == 34 then 92 ∷ 34 ∷ []
    else (if b == 92 then 92 ∷ 92 ∷ []
    else (if nat_lt b 32 || b == 127 then 92 ∷ (codes "u00" ++ encode_lower (b ∷ []))
    else b ∷ []))

abbrev pub text_notation : List ℕ → List ℕ
text_notation bs = 34 ∷ (flat_map shown_byte bs ++ 34 ∷ [])

abbrev pub bytes_notation : List ℕ → List ℕ
bytes_notation bs = codes "h'" ++ (encode_lower bs ++ codes "'")

abbrev pub simple_notation : ℕ → List ℕ
simple_notation n =
    if n == 20 then codes "false"
    else (if n == 21 then codes "true"
    else (if n == 22 then codes "null"
    else (if n == 23 then codes "undefined"
    else codes "simple(" ++ (decimal n ++ codes ")"))))

-- a float's bits, in hex digits
abbrev pub float_notation : Width → ℕ → List ℕ
float_notation W16 n = codes "f16'" ++ (encode_lower (to_be_bytes w16 n) ++ codes "'")
float_notation W32 n = codes "f32'" ++ (encode_lower (to_be_bytes w32 n) ++ codes "'")
float_notation W64 n = codes "f64'" ++ (encode_lower (to_be_bytes w64 n) ++ codes "'")

abbrev mutual
  pub notation : Value → List ℕ
  notation (uint n) = decimal n
  notation (nint n) = codes "-" ++ decimal (n + 1)
  notation (bytes bs) = bytes_notation bs
  notation (text bs) = text_notation bs
  notation (array xs) = codes "[" ++ (members_notation xs ++ codes "]")
  notation (pairs ps) = codes "{" ++ (pairs_notation ps ++ codes "}")
  notation (tag n x) = decimal n ++ (codes "(" ++ (notation x ++ codes ")"))
  notation (simple n) = simple_notation n
  notation (float w n) = float_notation w n

  pub members_notation : Values → List ℕ
  members_notation no_values = []
  members_notation (value x xs) = notation x ++ further_members_notation xs

  pub further_members_notation : Values → List ℕ
  further_members_notation no_values = []
  further_members_notation (value x xs) = codes ", " ++ (notation x ++ further_members_notation xs)

  pub pairs_notation : Pairs → List ℕ
  pairs_notation no_pairs = []
  pairs_notation (pair k v ps) = notation k ++ (codes ": " ++ (notation v ++ further_pairs_notation ps))

  pub further_pairs_notation : Pairs → List ℕ
  further_pairs_notation no_pairs = []
  further_pairs_notation (pair k v ps) = codes ", " ++ (notation k ++ (codes ": " ++ (notation v ++ further_pairs_notation ps)))
