-- An end that is no want of steps is the stream's by the specification alone.
use Rattle.std.proofs.Common.{◌≡◌, ℕ, List, length, refl}
use Rattle.cbor_data.specs.Faults.{Bounds, IsFaultOf}
use Rattle.cbor_data.specs.Sequence as sequence
use Rattle.cbor_data.specs.Sequence.{Found, Takes, none, next, EndsBy, cleanly, at_fault, at_mismatch, at_spent, failed, spent}
use Rattle.cbor_data.specs.declared.FaultKind.{FaultKind}
use Rattle.seq_run.specs.Judge.{Judge}
use Rattle.seq_run.specs.declared.end.Cause.TheVariants.{Fault, Mismatch, Spent}
use Rattle.seq_run.specs.declared.end.End.{End}
use Rattle.seq_run.specs.declared.end.End.TheVariants.{Clean, Failed}
use Rattle.seq_run.specs.Ends.{Accepts, Misses, Overruns, Ends, IsAccepted, IsMissed, EndsFreely, IsDecisive, end_of}
use Rattle.seq_run.proofs.Ending.{clean_run, fault_run, other_run}
use Rattle.seq_run.proofs.Verdicts.{OneAnswer, never_both}

module _ (one : OneAnswer) (judge : Judge) (l : Bounds) where
  takes_freely : {o : ℕ} {b : List ℕ} {found : List Found} {rest : List ℕ} → Takes l (Accepts judge) o b found rest → Takes l (IsAccepted judge.table) o b found rest
  takes_freely none = none
  takes_freely (next x front back e i c t) = next x front back e i (c.0, c.1) (takes_freely t)

  ends_freely : {b : List ℕ} {found : List Found} {e : sequence.End FaultKind} → EndsBy l (Accepts judge) (IsFaultOf l) (Misses judge) (Overruns judge) b found e →
      ((n o : ℕ) → e ≡ failed n o spent → ⊥) → EndsBy l (IsAccepted judge.table) (IsFaultOf l) (IsMissed judge.table) (λ x b. ⊥) b found e
  ends_freely {b} {found} (cleanly run) not = cleanly (clean_run l (IsAccepted judge.table) b found (takes_freely run.takes))
  ends_freely {b} {found} (at_fault {o = o} {k = k} {at = at} rest run some placed told) not =
      at_fault rest (fault_run l (IsAccepted judge.table) b found rest o k at (takes_freely run.takes) placed told) some placed told
  ends_freely {b} {found} (at_mismatch {o = o} {place = place} rest x front back run placed parts item misses) not =
      at_mismatch rest x front back (other_run l (IsAccepted judge.table) b found rest o x front back (takes_freely run.takes) placed parts item (λ c accepted. never_both one judge.table item accepted.1 misses.1)) placed parts item (misses.0, misses.1)
  ends_freely {found = found} (at_spent {o = o} rest x front back run placed parts item over) not = absurd (not (length found) o refl)

  never_spent : (end : End) → IsDecisive end → (n o : ℕ) → end_of end ≡ failed n o spent → ⊥
  never_spent (Clean items bytes) h n o e = absurd (cc)
  never_spent (Failed items offset (Fault f)) h n o e = absurd (cc)
  never_spent (Failed items offset (Mismatch place)) h n o e = absurd (cc)
  never_spent (Failed items offset Spent) h n o e = h

  pub decisive_end : (stream : List ℕ) (found : List Found) (end : End) → Ends judge l stream found end → IsDecisive end → EndsFreely judge.table l stream found end
  decisive_end stream found end ends decisive = ends_freely ends (never_spent end decisive)
