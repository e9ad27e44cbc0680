-- Where the end of a text is for a reader: its line and its column, both from 1.
use Rattle.std.specs.Prelude.{ℕ, Bool, List, [], ◌∷◌, ◌++◌, ◌≡◌, ◌⊎◌, ◌+◌, ◌==◌, ◌||◌, nat_lt, nat_le, count_by}

abbrev pub is_line_feed : ℕ → Bool
is_line_feed byte = byte == 10

-- the first byte of a character of UTF-8, or a byte that stands in none
abbrev pub begins_character : ℕ → Bool
begins_character byte = nat_lt byte 128 || nat_le 192 byte

-- whole lines: no bytes, or a line feed last
abbrev pub AreLines : List ℕ → Type 0
AreLines bytes = (bytes ≡ []) ⊎ ((front : List ℕ) × (bytes ≡ front ++ 10 ∷ []))

-- These bytes are whole lines, and then what there is of one more. The line is one more than the line feeds, the column one more
-- than the characters that begin in that last line.
pub record IsAt (bytes : List ℕ) (line column : ℕ) : Type 0 where
  pub lines : List ℕ
  pub rest : List ℕ
  pub whole : bytes ≡ lines ++ rest
  pub closed : AreLines lines
  pub open_line : count_by is_line_feed rest ≡ 0
  pub line_is : line ≡ count_by is_line_feed lines + 1
  pub column_is : column ≡ count_by begins_character rest + 1
