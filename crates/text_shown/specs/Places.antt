-- A part of a text, as it is shown: the line where it begins, with marks under it.
use Rattle.std.specs.Prelude.{◌≡◌, ◌⊎◌, ℕ, ◌<◌, ◌≤◌, ◌-◌, ◌==◌, ◌||◌, nat_lt, Bool, true, false, List, [], ◌∷◌, ◌++◌, codes, chars, drop, take, get_or, length, min, flat_map, slice_range, if◌then◌else◌}
use Rattle.std.specs.Str.Lossy.{utf8_lossy}
use Rattle.text_shown.specs.Shown.{shown_char}

-- From here to the offset is no line feed, and before it is one, or nothing.
pub record IsLineStart (text : List ℕ) (offset start : ℕ) : Type 0 where
  pub within : start ≤ offset
  pub unbroken : (k : ℕ) → start ≤ k → k < offset → get_or text k 0 ≡ 10 → ⊥
  pub first : (start ≡ 0) ⊎ (get_or text (start - 1) 0 ≡ 10)

-- a line feed or a carriage return
abbrev pub ends_line : ℕ → Bool
ends_line byte = byte == 10 || byte == 13

-- From the offset to here is neither, and here is one, or the end of the text.
pub record IsLineEnd (text : List ℕ) (offset end : ℕ) : Type 0 where
  pub within : (offset ≤ end) × (end ≤ length text)
  pub unbroken : (k : ℕ) → offset ≤ k → k < end → ends_line (get_or text k 0) ≡ false
  pub last : (end ≡ length text) ⊎ (ends_line (get_or text end 0) ≡ true)

-- how many characters of the line are shown on each side of the place, at most
abbrev pub most_beside : ℕ
most_beside = 60

-- the characters of bytes, with U+FFFD for what is not UTF-8
abbrev pub characters_of : List ℕ → List ℕ
characters_of bytes = chars (utf8_lossy bytes)

-- a character of the line: a tab as four spaces
abbrev pub line_char : ℕ → List ℕ
line_char c = if c == 9 then codes "    " else shown_char c

-- where there are more characters than are shown
abbrev pub dots_for : List ℕ → List ℕ
dots_for characters = if nat_lt most_beside (length characters) then codes ".." else []

-- the last of the characters before the place
abbrev pub shown_before : List ℕ → List ℕ
shown_before characters = dots_for characters ++ flat_map line_char (drop (length characters - most_beside) characters)

-- a part by itself: the first of its characters
abbrev pub shown_part : List ℕ → List ℕ
shown_part part = flat_map line_char (take most_beside (characters_of part)) ++ dots_for (characters_of part)

-- a word once for each character of a text
abbrev pub repeated : List ℕ → List ℕ → List ℕ
repeated word text = flat_map (λ c. word) (chars text)

-- a mark for each character that is shown, and one where there is none
abbrev pub marks_for : List ℕ → List ℕ
marks_for [] = codes "^"
marks_for (b ∷ text) = repeated (codes "^") (b ∷ text)

-- the line with these bytes before the part and from its beginning on, and marks under what of the part is in the line
abbrev pub marked_line : List ℕ → List ℕ → List ℕ → List ℕ
marked_line before from part =
    shown_before (characters_of before) ++ (shown_part from ++ (codes "\n" ++ (repeated (codes " ") (shown_before (characters_of before)) ++ (marks_for (shown_part part) ++ codes "\n"))))

-- what is shown of a part
pub record IsPointedAt (text : List ℕ) (from to : ℕ) (shown : List ℕ) : Type 0 where
  pub start : ℕ
  pub end : ℕ
  pub begins : IsLineStart text from start
  pub ends : IsLineEnd text from end
  pub is : shown ≡ marked_line (slice_range text start from) (slice_range text from end) (slice_range text from (min to end))
