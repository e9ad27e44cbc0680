-- The command line that the program reads, and what it gives.
use Rattle.std.specs.Prelude.{◌≡◌, ℕ, ◌-◌, ◌^◌, ◌≤◌, pos, Bool, true, false, List, [], ◌∷◌, codes, if◌then◌else◌, Option, Some, None, option_and_then, option_map, string_bytes}
use Rattle.std.specs.Str.{bytes_eq}
use Rattle.std.specs.Str.Parse.{IsNumeral, digits_value, without_leading_plus}
use Rattle.cbor_read.specs.declared.limits.TheConstants.{MOST_DEPTH, MOST_ITEM_BYTES}
use Rattle.clap.specs.declared.builder.action.ArgAction.TheVariants.{SetTrue}
use Rattle.clap.specs.Words.{App, Row, Rule, Text, fault_of, new_app, new_rule, with_rule, with_subcommand, subcommand_of, first_of, one_of}
use Rattle.clap.specs.declared.builder.value_parser.ValueParser.TheVariants.{Signed, Unsigned}
use Rattle.command_line.specs.declared.choice.Options.{Options}
use Rattle.command_line.specs.declared.choice.Task.{Task}
use Rattle.command_line.specs.declared.choice.Task.TheVariants.{Check, Validate, Rewrite, Show, Explain}
use Rattle.command_line.specs.declared.choice.TheConstants.{ITEM_BYTES, STEPS}
use Rattle.command_line.specs.declared.choice.Use.{Use}
use Rattle.command_line.specs.declared.choice.Use.TheVariants.{Words, Memory}

abbrev pub spec_rule : Rule
spec_rule = record (new_rule (codes "spec")) { value_names = 1; required = true }

-- `CODE`
abbrev pub code_rule : Rule
code_rule = record (new_rule (codes "code")) { value_names = 1; required = true }

-- `--root NAME`
abbrev pub root_rule : Rule
root_rule = record (new_rule (codes "root")) { long = Some (codes "root"); value_names = 1 }

abbrev pub file_rule : Rule
file_rule = record (new_rule (codes "file")) { value_names = 1 }

-- an option with a number from 1 to `most`, which is the number where the option is absent
abbrev pub number_rule : Text → ℕ → Text → Rule
number_rule name most default =
    record (new_rule name) { long = Some name; value_names = 1; defaults = default ∷ []; parser = Some (Signed (pos 1) (pos most)) }

abbrev pub depth_rule : Rule
depth_rule = number_rule (codes "depth") MOST_DEPTH (codes "256")

abbrev pub item_bytes_rule : Rule
item_bytes_rule = number_rule (codes "item-bytes") MOST_ITEM_BYTES (codes "16777216")

abbrev pub most_steps : ℕ
most_steps = 2 ^ 64 - 1

-- `--steps N`
abbrev pub steps_rule : Rule
steps_rule =
    record (new_rule (codes "steps")) { long = Some (codes "steps"); value_names = 1; defaults = codes "10000000" ∷ []; parser = Some (Unsigned 1 most_steps) }

-- an option without a value
abbrev pub flag_rule : Text → Rule
flag_rule name = record (new_rule name) { long = Some name; action = Some SetTrue }

-- `--quiet`
abbrev pub quiet_rule : Rule
quiet_rule = flag_rule (codes "quiet")

-- `--deterministic`
abbrev pub deterministic_rule : Rule
deterministic_rule = flag_rule (codes "deterministic")

-- `--explain`
abbrev pub explain_rule : Rule
explain_rule = flag_rule (codes "explain")

-- `--no-progress`
abbrev pub no_progress_rule : Rule
no_progress_rule = flag_rule (codes "no-progress")

-- a command with `SPEC`, `--root NAME` and `--explain`
abbrev pub spec_app : App → App
spec_app a = with_rule (with_rule (with_rule a spec_rule) root_rule) explain_rule

-- a command with `[FILE]`, `--depth N` and `--item-bytes N`
abbrev pub stream_app : App → App
stream_app a = with_rule (with_rule (with_rule a file_rule) depth_rule) item_bytes_rule

-- a command with `SPEC`, `[FILE]`, all options of these, `--steps N` and `--no-progress`
abbrev pub judging_app : App → App
judging_app a = with_rule (with_rule (stream_app (spec_app a)) steps_rule) no_progress_rule

-- `check SPEC`, with `--root` and `--explain`
abbrev pub check_app : App
check_app = spec_app (new_app (codes "check"))

-- `validate SPEC [FILE]`, with these options and `--quiet`
abbrev pub validate_app : App
validate_app = with_rule (judging_app (new_app (codes "validate"))) quiet_rule

-- `rewrite SPEC [FILE]`, with these options and `--deterministic`
abbrev pub rewrite_app : App
rewrite_app = with_rule (judging_app (new_app (codes "rewrite"))) deterministic_rule

-- `show [FILE]`, with those of a stream
abbrev pub show_app : App
show_app = stream_app (new_app (codes "show"))

-- `explain CODE`
abbrev pub explain_app : App
explain_app = with_rule (new_app (codes "explain")) code_rule

-- the program's command, which has a version, and of which a subcommand is required
abbrev pub top_app : App
top_app = record { top = record ((new_app (codes "cddlseq")).top) { has_version = true; subcommand_required = true }; subs = [] }

abbrev pub program_app : App
program_app =
    with_subcommand (with_subcommand (with_subcommand (with_subcommand (with_subcommand top_app check_app.top) validate_app.top) rewrite_app.top) show_app.top) explain_app.top

abbrev pub task_name : Task → Text
task_name Check = codes "check"
task_name Validate = codes "validate"
task_name Rewrite = codes "rewrite"
task_name Show = codes "show"
task_name Explain = codes "explain"

-- the subcommand that the words name, by clap's rules
unfoldable pub named_command : List Text → Option Text
named_command words = option_map (λ p. p.0) (subcommand_of program_app words)

-- the name of the file with the stream, unless standard input is read: without a name, and for `-`
abbrev pub named_stream : Option Text → Option Text
named_stream None = None
named_stream (Some name) = if bytes_eq name (codes "-") then None else Some name

-- the value that the words give this argument of it
unfoldable pub given_text : Text → List Text → Option Text
given_text id words = option_and_then (λ p. first_of id p.1) (subcommand_of program_app words)

-- the text that they give an option with a number
unfoldable pub given_number : Text → List Text → Option Text
given_number id words = option_and_then (λ p. one_of id p.1) (subcommand_of program_app words)

-- the text is this number, from 1 to `most`, in decimal
abbrev pub IsNumber : ℕ → Option Text → ℕ → Type 0
IsNumber most None n = ⊥
IsNumber most (Some text) n = IsNumeral 10 (without_leading_plus text) × (n ≡ digits_value 10 (without_leading_plus text)) × (1 ≤ n) × (n ≤ most)

-- the number of an option of a stream: that of its text, and the default where the task has no stream
abbrev pub IsStreamNumber : Task → (default most : ℕ) → Option Text → ℕ → Type 0
IsStreamNumber Check default most text n = n ≡ default
IsStreamNumber Validate default most text n = IsNumber most text n
IsStreamNumber Rewrite default most text n = IsNumber most text n
IsStreamNumber Show default most text n = IsNumber most text n
IsStreamNumber Explain default most text n = n ≡ default

-- the steps of a task: those of its option, and the default where it has none
abbrev pub AreTaskSteps : Task → Option Text → ℕ → Type 0
AreTaskSteps Check text steps = steps ≡ STEPS
AreTaskSteps Validate text steps = IsNumber most_steps text steps
AreTaskSteps Rewrite text steps = IsNumber most_steps text steps
AreTaskSteps Show text steps = steps ≡ STEPS
AreTaskSteps Explain text steps = steps ≡ STEPS

-- whether an option without a value is given
abbrev pub is_set : Option Text → Bool
is_set None = false
is_set (Some text) = bytes_eq text (codes "true")

-- what the rows of a subcommand's matches give
pub record AreRead (task : Task) (rows : List Row) (o : Options) : Type 0 where
  pub task_is : o.task ≡ task
  pub code : option_map (λ s. string_bytes s) o.code ≡ first_of (codes "code") rows
  pub spec : option_map (λ s. string_bytes s) o.spec ≡ first_of (codes "spec") rows
  pub root : option_map (λ s. string_bytes s) o.root ≡ first_of (codes "root") rows
  pub file : option_map (λ s. string_bytes s) o.file ≡ first_of (codes "file") rows
  pub steps : AreTaskSteps task (one_of (codes "steps") rows) o.steps
  pub depth : IsStreamNumber task MOST_DEPTH MOST_DEPTH (one_of (codes "depth") rows) o.depth
  pub item_bytes : IsStreamNumber task ITEM_BYTES MOST_ITEM_BYTES (one_of (codes "item-bytes") rows) o.item_bytes
  pub quiet : o.quiet ≡ is_set (first_of (codes "quiet") rows)
  pub deterministic : o.deterministic ≡ is_set (first_of (codes "deterministic") rows)
  pub explain : o.explain ≡ is_set (first_of (codes "explain") rows)
  pub no_progress : o.no_progress ≡ is_set (first_of (codes "no-progress") rows)

abbrev pub AreUnread : Task → List Row → Use → Type 0
AreUnread task rows (Words e) = (o : Options) → AreRead task rows o → ⊥
AreUnread task rows Memory = Unit {0}

-- By clap's rules nothing is wrong with the words, and they give these options.
pub record AreChosen (o : Options) (words : List Text) : Type 0 where
  pub taken : fault_of program_app words ≡ []
  pub task : named_command words ≡ Some (task_name o.task)
  pub code : option_map (λ s. string_bytes s) o.code ≡ given_text (codes "code") words
  pub spec : option_map (λ s. string_bytes s) o.spec ≡ given_text (codes "spec") words
  pub root : option_map (λ s. string_bytes s) o.root ≡ given_text (codes "root") words
  pub file : option_map (λ s. string_bytes s) o.file ≡ given_text (codes "file") words
  pub steps : AreTaskSteps o.task (given_number (codes "steps") words) o.steps
  pub depth : IsStreamNumber o.task MOST_DEPTH MOST_DEPTH (given_number (codes "depth") words) o.depth
  pub item_bytes : IsStreamNumber o.task ITEM_BYTES MOST_ITEM_BYTES (given_number (codes "item-bytes") words) o.item_bytes
  pub quiet : o.quiet ≡ is_set (given_text (codes "quiet") words)
  pub deterministic : o.deterministic ≡ is_set (given_text (codes "deterministic") words)
  pub explain : o.explain ≡ is_set (given_text (codes "explain") words)
  pub no_progress : o.no_progress ≡ is_set (given_text (codes "no-progress") words)

-- Where the words are refused they give no options.
abbrev pub IsMisuse : List Text → Use → Type 0
IsMisuse words (Words e) = (o : Options) → AreChosen o words → ⊥
IsMisuse words Memory = Unit {0}

-- Want of memory stays what it is, and what is wrong with the words may be reported in other words.
abbrev pub IsToldOf : Use → Use → Type 0
IsToldOf (Words e) told = Unit {0}
IsToldOf Memory told = told ≡ Memory
