-- What `validate` answers: said of the text and of the stream alone.
use Rattle.std.specs.Prelude.{◌≡◌, ℕ, ◌≤◌, ◌⊎◌, List, [], ◌∷◌, length, Option, IfSome}
use Rattle.std.specs.Io.KnownBytes as bytes
use Rattle.cbor_data.specs.Faults.{Bounds, last_offset}
use Rattle.cbor_data.specs.Preferred.{preferred}
use Rattle.cbor_data.specs.Sequence.{Found}
use Rattle.cbor_data.specs.Value.{AreBytes, Value}
use Rattle.cddl_check.specs.Text.{IsWrongText}
use Rattle.check_text.specs.declared.fault.Fault.{Fault}
use Rattle.cddl_language.specs.Terms.{Text}
use Rattle.item_nodes.specs.declared.counted.Counted.{Counted}
use Rattle.seq_run.specs.Answers.{items_of}
use Rattle.seq_run.specs.Output.{stream_output}
use Rattle.seq_run.specs.Report.{IsShown}
use Rattle.seq_run.specs.Running.{Change, HasNotFailed}
use Rattle.seq_run.specs.Written.{AreWritable, clean_end, found_from, written_bytes}
use Rattle.seq_run.specs.declared.end.End.{End}
use Rattle.seq_run.specs.declared.output.Mode.{Mode}
use Rattle.seq_run.specs.declared.output.Mode.TheVariants.{Rewrite}
use Rattle.seq_run.specs.declared.running.RunFault.{RunFault}
use Rattle.seq_run.specs.declared.running.RunFault.TheVariants.{Memory}
use Rattle.cddl.specs.Rules.{Accepts, Ends, HasRoot, IsRejected, IsRun, Rule}
use Rattle.cddl.specs.Stopped.{IsCut, ReadsByPieces}
use Rattle.cddl.specs.declared.validating.Failure.{Failure}
use Rattle.cddl.specs.declared.validating.Failure.TheVariants.{Refused, Stopped}

-- Each item, as it is written, has no more bytes than an item may have.
abbrev pub AreShort : Bounds → List Value → Type 0
AreShort l [] = Unit {0}
AreShort l (x ∷ xs) = (length (preferred x) ≤ l.item_bytes) × AreShort l xs

-- What is reported for a stream, by the root rule:
pub record IsTold (rule : Rule) (l : Bounds) (steps : ℕ) (mode : Mode) (stream : List ℕ) (output : Change) (end : End) (rejected : Option Value) : Type 0 where
  -- it begins with these items, and then comes the rest;
  pub items : List Found
  pub rest : List ℕ
  -- they are the longest list of items that are well-formed, valid, within the limits, and accepted by the rule;
  pub run : IsRun rule steps l stream items rest
  -- it ends so: clean where there is no rest, else with the offset and the cause of the first item that fails;
  pub ends : Ends rule steps l stream items end
  -- a stream of bytes has no other such items and no other end;
  pub one : AreBytes stream → (others : List Found) (other : End) → Ends rule steps l stream others other → (items ≡ others) × (end ≡ other)
  -- the item that does not match is given, if that is why;
  pub rejects : IsRejected rule steps l stream items end rejected
  -- this is the whole output of these items and this end, and it went out;
  pub out : List ℕ
  pub out_is : out ≡ stream_output mode items end rejected
  pub written : bytes.Appends output.before output.after out
  -- and where it was rewritten, it is read back as just these items, provided that they are within the limits as they are written.
  pub read_back : mode ≡ Rewrite → AreShort l (items_of items) → length out ≤ last_offset → Ends rule steps l out (found_from 0 (items_of items)) (clean_end (items_of items))

-- The text is a specification in which nothing is wrong, and by its root rule this is reported for the stream:
pub record IsValidated (text : List ℕ) (named : Option Text) (l : Bounds) (steps : ℕ) (mode : Mode) (input output : Change) (end : End) (rejected : Option Value) : Type 0 where
  pub rule : Rule
  pub root : HasRoot text named rule
  pub told : IfSome input.before (λ stream. IsTold rule l steps mode stream output end rejected)
  -- of this end and this item `end_line` may be asked;
  pub shown : IsShown end rejected
  -- no read or write failed, and nothing was read after the piece that shows the end;
  pub reads : HasNotFailed input × ReadsByPieces rule steps l input
  pub writes : HasNotFailed output
  -- and any sound items that the rule accepts and that are within the limits, written out, are read back as just these.
  pub reads_back : (items : List Value) → AreWritable (Accepts rule steps) l items → length (written_bytes items) ≤ last_offset → Ends rule steps l (written_bytes items) (found_from 0 items) (clean_end items)

-- Nothing is known to have been read of a reader, or to have come to a writer, and it did not fail.
abbrev pub IsUntouched : Change → Type 0
IsUntouched device = (device.after ≡ device.before) × HasNotFailed device

-- Why nothing more is reported: memory was refused before the first read; or in the midst of the stream, by the root rule, a device
-- failed or memory was refused.
pub data IsStopped (text : List ℕ) (named : Option Text) (l : Bounds) (steps : ℕ) (mode : Mode) (input output : Change) (fault : RunFault) : Type 0 where
  at_first : fault ≡ Memory 0 → IsUntouched input → IsUntouched output → IsStopped text named l steps mode input output fault
  in_midst : (rule : Rule) → HasRoot text named rule → IsCut rule steps l mode input output fault → ReadsByPieces rule steps l input → IsStopped text named l steps mode input output fault

-- Why a call failed: the text is refused for the fault that is reported of it, and nothing was read or written; or it was stopped.
abbrev pub IsFailed : List ℕ → Option Text → Bounds → ℕ → Mode → Change → Change → Failure → Type 0
IsFailed text named l steps mode input output (Refused code at) = IsWrongText text named (record { code = code; at = at }) × IsUntouched input × IsUntouched output
IsFailed text named l steps mode input output (Stopped fault) = IsStopped text named l steps mode input output fault

-- Where the text is refused, the devices are as they were.
abbrev pub LeavesDevices : {R W : Type 0} → Counted R → Counted R → Counted W → Counted W → Failure → Type 0
LeavesDevices input_old input_new output_old output_new (Refused code at) = (input_new ≡ input_old) × (output_new ≡ output_old)
LeavesDevices input_old input_new output_old output_new (Stopped fault) = Unit {0}

-- The text is not refused: the call was stopped.
abbrev pub IsNoRefusal : Failure → Type 0
IsNoRefusal (Refused code at) = ⊥
IsNoRefusal (Stopped fault) = Unit {0}

-- The text is refused for this fault, or memory for the specification was refused.
abbrev pub IsRefusalFor : Fault → Failure → Type 0
IsRefusalFor fault failure = (failure ≡ Refused fault.code fault.at) ⊎ (failure ≡ Stopped (Memory 0))
