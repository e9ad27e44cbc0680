-- What is reported for an item that does not match to one who wants it explained.
use Rattle.std.specs.Prelude.{◌≡◌, ℕ, ◌⊎◌, if◌then◌else◌, List, [], ◌++◌, Option, Some, None, IfSome}
use Rattle.cbor_data.specs.Value.{Value}
use Rattle.cddl_mismatch.specs.Explained.{IsExplainedMismatch}
use Rattle.seq_run.specs.declared.end.End.{End}
use Rattle.seq_run.specs.Judge.{Judge}
use Rattle.seq_run.specs.Running.{Change, WritesAll}
use Rattle.command_line.specs.declared.choice.Options.{Options}
use Rattle.command_line.specs.declared.choice.Task.TheVariants.{Rewrite}
use Rattle.command_line.specs.declared.status.TheConstants.{BROKEN}
use Rattle.command_line.specs.Lines.{memory_line}
use Rattle.cddl_tool.specs.Acting.{limits_of, mode_of, named_file, specification_of, status_for, told_of, wanted_root, IsBroken, IsSaid}

-- the text that reasons are determined from: none where they are not wanted
abbrev pub wanted_text : Options → List ℕ → Option (List ℕ)
wanted_text o text = if o.explain then Some (specification_of o.task text) else None

-- Why the item that was rejected, if one was, does not match: nothing where no text is given.
abbrev pub AreReasons : Options → (text : Option (List ℕ)) → (rejected : Option Value) → List ℕ → Type 0
AreReasons o (Some text) (Some x) told = IsExplainedMismatch text (wanted_root o) (named_file o) x o.steps told
AreReasons o _ _ told = told ≡ []

-- There is an item to tell reasons of, and the text to tell them from.
abbrev pub AreWanted : (text : Option (List ℕ)) → (rejected : Option Value) → Type 0
AreWanted (Some text) (Some x) = Unit {0}
AreWanted _ _ = ⊥

-- What is reported for the end was reported, with the reasons after it, and the status is its own; or there was no memory for that, and
-- that was reported.
pub data IsTold (o : Options) (text : Option (List ℕ)) (end : End) (rejected : Option Value) (error : Change) : ℕ → Type 0 where
  told : (reasons : List ℕ) → AreReasons o text rejected reasons → IsSaid error (told_of o.task end rejected ++ reasons) → IsTold o text end rejected error (status_for end)
  no_memory : (o.task ≡ Rewrite) ⊎ AreWanted text rejected → IsSaid error memory_line → IsTold o text end rejected error BROKEN

-- As IsAnswered, with the reasons after what is reported for the end.
pub record IsAnsweredWith (o : Options) (judge : Judge) (text : Option (List ℕ)) (stream : List ℕ) (output error : Change) (status : ℕ) : Type 0 where
  pub end : End
  pub rejected : Option Value
  pub written : WritesAll (mode_of o.task o.quiet o.deterministic) judge (limits_of o) stream output end rejected
  pub reasons : List ℕ
  pub are_reasons : AreReasons o text rejected reasons
  pub told : IsSaid error (told_of o.task end rejected ++ reasons)
  pub is : status ≡ status_for end

-- As IsBroken; or the run is whole, and there was no memory for the reasons why its last item does not match, and that was reported.
pub data IsBrokenWith (o : Options) (judge : Judge) (text : Option (List ℕ)) (input output error : Change) : Type 0 where
  as_ever : IsBroken o judge input output error → IsBrokenWith o judge text input output error
  unexplained : (rejected : Option Value) → AreWanted text rejected → IfSome input.before (λ stream. (end : End) × WritesAll (mode_of o.task o.quiet o.deterministic) judge (limits_of o) stream output end rejected) →
      IsSaid error memory_line → IsBrokenWith o judge text input output error
