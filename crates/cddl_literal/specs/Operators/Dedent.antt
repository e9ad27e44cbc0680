-- Dedented strings (RFC 9165, section 2.3).
use Rattle.std.specs.Prelude.{ℕ, ◌==◌, min, Bool, not, List, map, drop, position, filter_map, Option, unwrap_or}
use Rattle.std.specs.List.{slice_split, join_with_byte, prefix_len, reduce}
use Prim.Native.Char.{code}

abbrev pub is_line_feed : ℕ → Bool
is_line_feed b = b == code "\n"

abbrev pub is_space : ℕ → Bool
is_space b = b == code " "

-- the lines of a string, without the line feeds between them; the last one may be empty
abbrev pub lines : List ℕ → List (List ℕ)
lines string = slice_split is_line_feed string

-- how many spaces a line begins with
abbrev pub spaces : List ℕ → ℕ
spaces line = prefix_len is_space line

-- the spaces before the first byte of a line that is none; a blank line has no indent
abbrev pub indent : List ℕ → Option ℕ
indent line = position (λ b. not (is_space b)) line

-- the least indent of a string's lines, or 0 where all are blank
abbrev pub least_indent : List ℕ → ℕ
least_indent string = unwrap_or (reduce min (filter_map indent (lines string))) 0

-- a line without its first spaces: so many, or all where it has fewer
abbrev pub without : ℕ → List ℕ → List ℕ
without n line = drop (min n (spaces line)) line

-- a string with so many spaces less at the beginning of each line
abbrev pub shifted : ℕ → List ℕ → List ℕ
shifted n string = join_with_byte (code "\n") (map (without n) (lines string))

-- a string without the least indent of its lines
abbrev pub dedented : List ℕ → List ℕ
dedented string = shifted (least_indent string) string
