-- What a terminal shows of how far a run is.
use Rattle.std.specs.Prelude.{ℕ, ◌*◌, ◌/◌, Bool, true, false, ◌&&◌, not, nat_lt, nat_le, if◌then◌else◌, List, [], ◌∷◌, ◌++◌, Option, Some, None, option_and_then, codes, decimal}
use Rattle.command_line.specs.declared.choice.Options.{Options}
use Rattle.command_line.specs.declared.choice.Task.{Task}
use Rattle.command_line.specs.declared.choice.Task.TheVariants.{Validate, Rewrite}

-- which whole percent of a file these bytes are, where they are no more than it has
abbrev pub percent_of : ℕ → ℕ → Option ℕ
percent_of bytes size = if nat_lt 0 size && nat_le bytes size then Some (bytes * 100 / size) else None

abbrev pub share_text : Option ℕ → List ℕ
share_text None = []
share_text (Some percent) = codes ", " ++ decimal percent ++ codes " %"

-- so many items were taken, so many bytes were read, and, where the size of the stream's file is known, which share of it that is
abbrev pub progress_text : ℕ → ℕ → Option ℕ → List ℕ
progress_text items bytes size = decimal items ++ codes " items, " ++ decimal bytes ++ codes " bytes" ++ share_text (option_and_then (percent_of bytes) size)

-- carriage return: the next character goes to the first column
abbrev pub to_line_begin : List ℕ
to_line_begin = 13 ∷ []

-- ECMA-48, EL: the rest of the line is erased
abbrev pub erase_rest : List ℕ
erase_rest = 27 ∷ 91 ∷ 75 ∷ []

-- shows this progress in place of what the line shows
abbrev pub progress_line : ℕ → ℕ → Option ℕ → List ℕ
progress_line items bytes size = to_line_begin ++ progress_text items bytes size ++ erase_rest

-- takes away what the line shows
abbrev pub cleared_line : List ℕ
cleared_line = to_line_begin ++ erase_rest

-- how long it takes at least before a line is shown, and from one to the next, in nanoseconds
abbrev pub pause : ℕ
pause = 1_000_000_000

-- a task whose progress is shown
abbrev pub has_progress : Task → Bool
has_progress Validate = true
has_progress Rewrite = true
has_progress task = false

-- Progress is shown where standard error is a terminal and standard output is none, unless it is not wanted.
abbrev pub shows_progress : Options → Bool → Bool → Bool
shows_progress o error_is_terminal output_is_terminal = has_progress o.task && not o.no_progress && error_is_terminal && not output_is_terminal
