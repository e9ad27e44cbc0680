-- What is shown of the user's words on standard error.
use Rattle.std.specs.Prelude.{ℕ, Bool, ◌/◌, ◌%◌, List, [], ◌∷◌, ◌++◌, ◌||◌, ◌&&◌, nat_le, codes, chars, encode_utf8, flat_map, if◌then◌else◌}
use Rattle.std.specs.Char.{digit_char, is_control}

-- U+202A to U+202E and U+2066 to U+2069, which change the order in which a terminal shows characters
abbrev pub is_bidirectional : ℕ → Bool
is_bidirectional c = (nat_le 8234 c && nat_le c 8238) || (nat_le 8294 c && nat_le c 8297)

-- a character below U+10000 as `\u` and its four hex digits
abbrev pub escaped : ℕ → List ℕ
escaped c = codes "\\u" ++ (digit_char (c / 4096) ∷ digit_char (c / 256 % 16) ∷ digit_char (c / 16 % 16) ∷ digit_char (c % 16) ∷ [])

-- control characters (U+0000 to U+001F, and U+007F to U+009F) and these as an escape, and any other as it is
abbrev pub shown_char : ℕ → List ℕ
shown_char c = if is_control c || is_bidirectional c then escaped c else encode_utf8 c

-- a word: its characters as they are, but for those
abbrev pub shown : List ℕ → List ℕ
shown word = flat_map shown_char (chars word)
