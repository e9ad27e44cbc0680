-- The line of a reason why an item does not match.
use Rattle.std.specs.Prelude.{ℕ, ◌==◌, List, [], ◌++◌, codes, decimal, if◌then◌else◌}
use Rattle.text_shown.specs.Places.{shown_part}
use Rattle.text_shown.specs.Shown.{shown}
use Rattle.mismatch_words.specs.Causes.{said}
use Rattle.mismatch_words.specs.declared.causes.Cause.{Cause}

-- what is wrong, with what is shown of the type
abbrev pub said_of : Cause → List ℕ → List ℕ
said_of cause written = said cause (shown_part written)

-- `FILE:LINE:COLUMN`
abbrev pub position_text : List ℕ → ℕ → ℕ → List ℕ
position_text file line column = shown file ++ (codes ":" ++ (decimal line ++ (codes ":" ++ decimal column)))

-- `FOUND: POSITION: RULE WORDS`
abbrev pub parts_text : (found position rule words : List ℕ) → List ℕ
parts_text found position rule words = found ++ (codes ": " ++ (position ++ (codes ": " ++ (rule ++ (codes " " ++ (words ++ codes "\n"))))))

-- the line of a reason
abbrev pub line_text : (file found : List ℕ) → (line column : ℕ) → (rule : List ℕ) → Cause → (written : List ℕ) → List ℕ
line_text file found line column rule cause written = parts_text found (position_text file line column) (shown rule) (said_of cause written)

-- the line of a reason whose types stand nowhere in the text, since the root is this name of the prelude
abbrev pub root_text : (found root : List ℕ) → List ℕ
root_text found root = found ++ (codes ": is not as " ++ (root ++ codes " of the prelude wants\n"))

abbrev pub root_line : (found root : List ℕ) → List ℕ
root_line found root = root_text found (shown root)

-- how many more reasons there are
abbrev pub more_line : ℕ → List ℕ
more_line more = if more == 0 then [] else codes "and " ++ (decimal more ++ codes " more\n")
