-- What the program's status says.
use Rattle.std.specs.Prelude.{◌≡◌, ℕ, ◌<◌, ◌-◌, ◌^◌, Bool, true, false, List, [], ◌++◌, length, take, Option, Some, None, IfSome, codes, ◌⊎◌, string_bytes, option_map}
use Rattle.std.specs.Io.KnownBytes as bytes
use Rattle.cbor_data.specs.Faults.{Bounds}
use Rattle.cbor_data.specs.Value.{Value}
use Rattle.seq_run.specs.declared.end.End.{End}
use Rattle.seq_run.specs.declared.end.End.TheVariants.{Clean, Failed}
use Rattle.seq_run.specs.Judge.{Judge}
use Rattle.seq_run.specs.declared.output.Mode.{Mode}
use Rattle.seq_run.specs.declared.output.Mode.TheVariants as mode
use Rattle.seq_run.specs.declared.running.RunFault.{RunFault}
use Rattle.seq_run.specs.declared.running.RunFault.TheVariants.{ReadFailed, WriteFailed, Memory}
use Rattle.seq_run.specs.Report.{end_line}
use Rattle.seq_run.specs.Running.{Change, HasFailed, HasNotFailed, IsFault, WritesAll}
use Rattle.cddl_token.specs.Messages.{refusal_text}
use Rattle.cddl_token.specs.declared.Refusal.TheVariants.{At}
use Rattle.cddl_check.specs.Text.{IsWrongText}
use Rattle.check_text.specs.declared.fault.Fault.{Fault}
use Rattle.command_line.specs.declared.choice.Options.{Options}
use Rattle.command_line.specs.declared.choice.Task.{Task}
use Rattle.command_line.specs.declared.choice.Task.TheVariants.{Check, Validate, Rewrite, Show, Explain}
use Rattle.command_line.specs.declared.status.TheConstants.{REFUSED, BROKEN}
use Rattle.command_line.specs.Lines.{memory_line, read_failed_line, unexplained_line, write_failed_line}
use Rattle.cddl_explain.specs.declared.subjects.Subject.{Subject}
use Rattle.cddl_explain.specs.Subjects.{explanation_of, IsNameOf}
use Rattle.cddl_tool.specs.Further.{IsReason}

-- the specification of a task: to show a stream or to explain a code, that of any item
abbrev pub specification_of : Task → List ℕ → List ℕ
specification_of Check spec = spec
specification_of Validate spec = spec
specification_of Rewrite spec = spec
specification_of Show spec = codes "a = any"
specification_of Explain spec = codes "a = any"

-- The text went out whole, unless the device failed.
abbrev pub IsSaid : Change → List ℕ → Type 0
IsSaid device text = HasNotFailed device → device.failures_before < 2 ^ 64 - 1 → bytes.Appends device.before device.after text

-- the line that tells what is wrong with a text
abbrev pub refusal_line : Fault → List ℕ
refusal_line f = refusal_text (At f.code f.at) ++ codes "\n"

-- what is to be explained, and the name of a file: nothing where there is none
abbrev pub word_in : Option (List ℕ) → List ℕ
word_in None = []
word_in (Some word) = word

abbrev pub wanted_root : Options → Option (List ℕ)
wanted_root o = option_map (λ s. string_bytes s) o.root

abbrev pub named_file : Options → List ℕ
named_file o = word_in (option_map (λ s. string_bytes s) o.spec)

-- What is reported for a refusal: its line, and with `--explain` also where it is and what is wrong, and what else is wrong.
pub data IsToldRefusal (o : Options) (text : List ℕ) (f : Fault) : List ℕ → Type 0 where
  line_alone : o.explain ≡ false → IsToldRefusal o text f (refusal_line f)
  with_reason : o.explain ≡ true → (told : List ℕ) → IsReason f (named_file o) text (wanted_root o) told → IsToldRefusal o text f told

-- The text has no table with the root that is asked for: what is wrong with it was reported, and the status says so; or want of memory was.
pub data IsTurnedDown (o : Options) (text : List ℕ) (error : Change) : ℕ → Type 0 where
  refused : (f : Fault) → IsWrongText text (wanted_root o) f → (told : List ℕ) → IsToldRefusal o text f told → IsSaid error told → IsTurnedDown o text error REFUSED
  no_memory : IsSaid error memory_line → IsTurnedDown o text error BROKEN

-- the line that says that a specification is accepted
abbrev pub accepted_line : List ℕ
accepted_line = codes "accepted\n"

-- The device failed, and exactly the first k bytes of the line went out.
pub record IsCutOff (output : Change) (k : ℕ) : Type 0 where
  pub failed : HasFailed output
  pub short : k < length accepted_line
  pub part : bytes.Appends output.before output.after (take k accepted_line)

-- It was reported that the specification is accepted, and the status is 0; or it was reported where the line was cut off.
pub data IsAcceptance (output error : Change) : ℕ → Type 0 where
  whole : HasNotFailed output → bytes.Appends output.before output.after accepted_line → IsAcceptance output error 0
  cut : (k : ℕ) → IsCutOff output k → IsSaid error (write_failed_line k) → IsAcceptance output error BROKEN

-- a task that reads no stream
abbrev pub HasNoStream : Task → Type 0
HasNoStream task = (task ≡ Check) ⊎ (task ≡ Explain)

abbrev pub wanted_word : Options → List ℕ
wanted_word o = word_in (option_map (λ s. string_bytes s) o.code)

-- The device failed, and exactly the first k bytes of the text went out.
pub record IsCutIn (text : List ℕ) (output : Change) (k : ℕ) : Type 0 where
  pub failed : HasFailed output
  pub short : k < length text
  pub part : bytes.Appends output.before output.after (take k text)

-- What the word names was explained; or it was reported where the text was cut off, that nothing has this name, or want of memory.
pub data IsExplained (word : List ℕ) (output error : Change) : ℕ → Type 0 where
  explained : (s : Subject) → IsNameOf s word → HasNotFailed output → bytes.Appends output.before output.after (explanation_of s) → IsExplained word output error 0
  cut_short : (s : Subject) → IsNameOf s word → (k : ℕ) → IsCutIn (explanation_of s) output k → IsSaid error (write_failed_line k) → IsExplained word output error BROKEN
  unknown : ((s : Subject) → IsNameOf s word → ⊥) → IsSaid error (unexplained_line word) → IsExplained word output error BROKEN
  no_text : IsSaid error memory_line → IsExplained word output error BROKEN

-- the limits of items that the options give
abbrev pub limits_of : Options → Bounds
limits_of o = record { depth = o.depth; item_bytes = o.item_bytes }

abbrev pub status_for : End → ℕ
status_for (Clean items bytes) = 0
status_for (Failed items offset cause) = 1

abbrev pub report_mode_of : Bool → Mode
report_mode_of true = mode.EndLine
report_mode_of false = mode.Report

abbrev pub rewrite_mode_of : Bool → Mode
rewrite_mode_of true = mode.Deterministic
rewrite_mode_of false = mode.Rewrite

-- what is written of a stream, by the task, `--quiet` and `--deterministic`
abbrev pub mode_of : Task → Bool → Bool → Mode
mode_of Rewrite quiet deterministic = rewrite_mode_of deterministic
mode_of task quiet deterministic = report_mode_of quiet

-- what is reported for an end on standard error: its line, where items are rewritten
abbrev pub told_of : Task → End → Option Value → List ℕ
told_of Rewrite end rejected = end_line end rejected
told_of task end rejected = []

-- the line that says why a run stopped
abbrev pub fault_line : RunFault → List ℕ
fault_line (ReadFailed items) = read_failed_line items
fault_line (WriteFailed bytes) = write_failed_line bytes
fault_line (Memory items) = memory_line

-- The whole output of the stream went out, its end was reported, and the status is that of its end.
pub record IsAnswered (o : Options) (judge : Judge) (stream : List ℕ) (output error : Change) (status : ℕ) : Type 0 where
  pub end : End
  pub rejected : Option Value
  pub written : WritesAll (mode_of o.task o.quiet o.deterministic) judge (limits_of o) stream output end rejected
  pub told : IsSaid error (told_of o.task end rejected)
  pub is : status ≡ status_for end

-- Why there is no such status, and the line that was reported: the run stopped early, or it is whole and there was no memory for
-- the line of its end.
pub data IsBroken (o : Options) (judge : Judge) (input output error : Change) : Type 0 where
  stopped : (fault : RunFault) → IsFault (mode_of o.task o.quiet o.deterministic) judge (limits_of o) input output fault → IsSaid error (fault_line fault) → IsBroken o judge input output error
  untold : o.task ≡ Rewrite → IfSome input.before (λ stream. (end : End) × (rejected : Option Value) × WritesAll (mode_of o.task o.quiet o.deterministic) judge (limits_of o) stream output end rejected) →
      IsSaid error memory_line → IsBroken o judge input output error
