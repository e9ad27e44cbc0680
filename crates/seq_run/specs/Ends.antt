-- The run of a stream against a specification, and how it ends.
use Rattle.std.specs.Prelude.{ℕ, ◌<◌, ◌≤◌, List}
use Rattle.cbor_data.specs.Value.{Value}
use Rattle.cbor_data.specs.Faults.{Bounds, IsFaultOf}
use Rattle.cbor_data.specs.Sequence as sequence
use Rattle.cbor_data.specs.Sequence.{Found, Takes, IsRunOf, EndsBy, clean, failed, fault, mismatch, spent}
use Rattle.cbor_data.specs.declared.FaultKind.{FaultKind}
use Rattle.cddl_meaning.specs.Judges.{Answer, Yes, No}
use Rattle.table_nodes.specs.Language.{RootSays}
use Rattle.table_nodes.specs.declared.table.Table.{Table}
use Rattle.seq_run.specs.Judge.{Judge}
use Rattle.seq_run.specs.declared.end.Cause.{Cause}
use Rattle.seq_run.specs.declared.end.Cause.TheVariants.{Fault, Mismatch, Spent}
use Rattle.seq_run.specs.declared.end.End.{End}
use Rattle.seq_run.specs.declared.end.End.TheVariants.{Clean, Failed}

-- The item, spelled so, is accepted: the root type says yes of it, in no more judgements than the steps.
abbrev pub Accepts : Judge → Value → List ℕ → Type 0
Accepts judge x b = (w : ℕ) × RootSays judge.table x Yes w × (w ≤ judge.steps)

-- The item, spelled so, does not match, which shows at this place: the root type says no of it there, in no more
-- judgements than the steps.
abbrev pub Misses : Judge → Value → List ℕ → ℕ → Type 0
Misses judge x b place = (w : ℕ) × RootSays judge.table x (No place) w × (w ≤ judge.steps)

-- The steps are not enough for the item, spelled so: whatever the root type says of it takes more judgements.
abbrev pub Overruns : Judge → Value → List ℕ → Type 0
Overruns judge x b = (a : Answer) (w : ℕ) → RootSays judge.table x a w → judge.steps < w

-- The stream begins with these accepted items, at these offsets, and then comes the rest.
abbrev pub BeginsWith : Judge → Bounds → List ℕ → List Found → List ℕ → Type 0
BeginsWith judge l stream found rest = Takes l (Accepts judge) 0 stream found rest

-- These are the accepted items that the stream begins with, as many as there are, and then comes the rest.
abbrev pub IsRun : Judge → Bounds → List ℕ → List Found → List ℕ → Type 0
IsRun judge l stream found rest = IsRunOf l (Accepts judge) stream found rest

abbrev pub cause_of : Cause → sequence.Cause FaultKind
cause_of (Fault f) = fault f.kind f.at
cause_of (Mismatch place) = mismatch place
cause_of Spent = spent

abbrev pub end_of : End → sequence.End FaultKind
end_of (Clean items bytes) = clean items bytes
end_of (Failed items offset cause) = failed items offset (cause_of cause)

-- The run of the stream is these items, and it ends so.
abbrev pub Ends : Judge → Bounds → List ℕ → List Found → End → Type 0
Ends judge l stream found end = EndsBy l (Accepts judge) (IsFaultOf l) (Misses judge) (Overruns judge) stream found (end_of end)

-- The end is no want of steps.
abbrev pub IsDecisive : End → Type 0
IsDecisive (Failed items offset Spent) = ⊥
IsDecisive end = Unit {0}

-- The item, spelled so, is accepted by the specification, or does not match it at this place, in any number of
-- judgements.
abbrev pub IsAccepted : Table → Value → List ℕ → Type 0
IsAccepted table x b = (w : ℕ) × RootSays table x Yes w

abbrev pub IsMissed : Table → Value → List ℕ → ℕ → Type 0
IsMissed table x b place = (w : ℕ) × RootSays table x (No place) w

-- By the specification alone, the run of the stream is these items, and it ends so.
abbrev pub EndsFreely : Table → Bounds → List ℕ → List Found → End → Type 0
EndsFreely table l stream found end = EndsBy l (IsAccepted table) (IsFaultOf l) (IsMissed table) (λ x b. ⊥) stream found (end_of end)
