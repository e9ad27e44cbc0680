-- What is shown of a path.
use Rattle.std.specs.Prelude.{ℕ, ◌-◌, nat_lt, List, [], ◌++◌, codes, drop, encode_utf8, flat_map, length, if◌then◌else◌}
use Rattle.text_shown.specs.Places.{characters_of}
use Rattle.text_shown.specs.Shown.{shown}

-- how many characters are shown, at most; and so many bytes have more of them
abbrev pub most_characters : ℕ
most_characters = 120

abbrev pub most_bytes : ℕ
most_bytes = 512

-- where there are more characters than are shown
abbrev pub dots_before : List ℕ → List ℕ
dots_before characters = if nat_lt most_characters (length characters) then codes ".." else []

-- the last of these characters
abbrev pub last_words : List ℕ → List ℕ
last_words characters = dots_before characters ++ shown (flat_map encode_utf8 (drop (length characters - most_characters) characters))

-- the last of a path's characters
abbrev pub path_words : List ℕ → List ℕ
path_words path = last_words (characters_of (drop (length path - most_bytes) path))
