-- Many lines together.
use Rattle.std.specs.Prelude.{ℕ, ◌+◌, nat_eq, Bool, List, [], ◌∷◌, ◌++◌, drop, take, length, flat_map, if◌then◌else◌}
use Rattle.std.specs.Cmp.Lexicographic.{pointwise}
use Rattle.std.specs.List.{list_any}
use Rattle.mismatch_words.specs.Reasons.{more_line}

-- this line is one of them
abbrev pub has_line : List (List ℕ) → List ℕ → Bool
has_line lines line = list_any (λ told. pointwise nat_eq told line) lines

-- the lines with one more, unless it is one of them
abbrev pub with_line : List (List ℕ) → List ℕ → List (List ℕ)
with_line lines line = if has_line lines line then lines else lines ++ line ∷ []

-- how many lines are reported, at most
abbrev pub most_lines : ℕ
most_lines = 10

-- the first of these lines, and how many more there are, with so many others
abbrev pub told_lines : List (List ℕ) → ℕ → List ℕ
told_lines lines others = flat_map (λ line. line) (take most_lines lines) ++ more_line (length (drop most_lines lines) + others)
