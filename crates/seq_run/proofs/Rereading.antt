-- What is written out is read back.
use Rattle.std.proofs.Common.{◌≡◌, ℕ, suc, ◌+◌, ◌≤◌, List, [], ◌∷◌, ◌++◌, length, Option, Some, None, refl, ap, ◌∙◌, subst, arith, length-append}
use Rattle.std.specs.Io.KnownBytes as bytes
use Rattle.std.specs.Prelude.{IfSome}
use Rattle.cbor_data.specs.Value.{Value}
use Rattle.cbor_data.specs.Forms.{Spells}
use Rattle.cbor_data.specs.Preferred.{preferred}
use Rattle.cbor_data.specs.Sound.{IsSound}
use Rattle.cbor_data.specs.Faults.{Bounds, last_offset, IsItem}
use Rattle.cbor_data.specs.Sequence as sequence
use Rattle.cbor_data.specs.Sequence.{Found, Takes, none, next, IsRunOf, EndsBy, cleanly, at_fault, at_mismatch, at_spent}
use Rattle.cbor_data.specs.declared.FaultKind.{FaultKind}
use Rattle.table_nodes.specs.declared.table.Table.{Table}
use Rattle.seq_run.specs.Judge.{Judge}
use Rattle.seq_run.specs.declared.end.End.{End}
use Rattle.seq_run.specs.declared.end.End.TheVariants.{Clean, Failed}
use Rattle.seq_run.specs.Ends.{Accepts, Ends, IsAccepted, EndsFreely, IsDecisive, end_of}
use Rattle.seq_run.specs.Parts.{IsRejected}
use Rattle.seq_run.specs.declared.output.Mode.{Mode}
use Rattle.seq_run.specs.Output.{stream_output}
use Rattle.seq_run.specs.Running.{Change, WritesAll}
use Rattle.seq_run.specs.Written.{IsWritable, AreWritable, written_bytes, found_from, clean_end, IsWrittenStream, IsReadBack}
use Rattle.seq_run.proofs.Ending.{clean_run}
use Rattle.seq_run.proofs.OneEnd.{one_clean}

found_len : (o : ℕ) (items : List Value) → length (found_from o items) ≡ length items
found_len o [] = refl
found_len o (x ∷ xs) = ap suc (found_len (o + length (preferred x)) xs)

-- the preferred bytes of a sound item spell it
module _ (spells : (x : Value) → IsSound x → Spells x (preferred x)) where
  written_item : (accepts : Value → List ℕ → Type 0) (l : Bounds) (o : ℕ) (x : Value) → IsWritable accepts l x → o + length (preferred x) ≤ last_offset → IsItem l o x (preferred x)
  written_item accepts l o x w h = record { spells = spells x w.sound; valid = w.sound.valid; shallow = w.shallow; short = w.short; placed = h }

  takes_written : (accepts : Value → List ℕ → Type 0) (l : Bounds) (o : ℕ) (items : List Value) → AreWritable accepts l items → o + length (written_bytes items) ≤ last_offset →
      Takes l accepts o (written_bytes items) (found_from o items) []
  takes_written accepts l o [] w h = none
  takes_written accepts l o (x ∷ xs) w h =
      let len : length (preferred x ++ written_bytes xs) ≡ length (preferred x) + length (written_bytes xs) = length-append (preferred x) (written_bytes xs) in
      next x (preferred x) (written_bytes xs) refl (written_item accepts l o x w.0 (omega (arith, h, len))) w.0.accepted
      (takes_written accepts l (o + length (preferred x)) xs w.1 (omega (arith, h, len)))

  written_run : (accepts : Value → List ℕ → Type 0) (l : Bounds) (items : List Value) → AreWritable accepts l items → length (written_bytes items) ≤ last_offset → IsRunOf l accepts (written_bytes items) (found_from 0 items) []
  written_run accepts l items w h = clean_run l accepts (written_bytes items) (found_from 0 items) (takes_written accepts l 0 items w (omega (arith, h)))

  -- their run is these items, and nothing is left
  pub written_by : (accepts : Value → List ℕ → Type 0) {told : ℕ → List ℕ → FaultKind → ℕ → Type 0} {misses : Value → List ℕ → ℕ → Type 0} {overruns : Value → List ℕ → Type 0} (l : Bounds) (items : List Value) →
      AreWritable accepts l items → length (written_bytes items) ≤ last_offset → EndsBy l accepts told misses overruns (written_bytes items) (found_from 0 items) (sequence.clean (length items) (length (written_bytes items)))
  written_by accepts {told} {misses} {overruns} l items w h =
      subst (λ n. EndsBy l accepts told misses overruns (written_bytes items) (found_from 0 items) (sequence.clean n (length (written_bytes items)))) (found_len 0 items) (cleanly (written_run accepts l items w h))

  pub written_ends : (judge : Judge) (l : Bounds) (items : List Value) → AreWritable (Accepts judge) l items → length (written_bytes items) ≤ last_offset → Ends judge l (written_bytes items) (found_from 0 items) (clean_end items)
  written_ends judge l items w h = written_by (Accepts judge) l items w h

  pub written_ends_freely : (table : Table) (l : Bounds) (items : List Value) → AreWritable (IsAccepted table) l items → length (written_bytes items) ≤ last_offset → EndsFreely table l (written_bytes items) (found_from 0 items) (clean_end items)
  written_ends_freely table l items w h = written_by (IsAccepted table) l items w h

-- a clean end has a run that leaves nothing
run_of_clean : {l : Bounds} {accepts : Value → List ℕ → Type 0} {kind : Type 0} {told : ℕ → List ℕ → kind → ℕ → Type 0} {misses : Value → List ℕ → ℕ → Type 0} {overruns : Value → List ℕ → Type 0} {b : List ℕ} {found : List Found} {e : sequence.End kind} →
    EndsBy l accepts told misses overruns b found e → (n m : ℕ) → e ≡ sequence.clean n m → IsRunOf l accepts b found []
run_of_clean (cleanly run) n m e = run
run_of_clean (at_fault rest run some placed told) n m e = absurd (cc)
run_of_clean (at_mismatch rest x front back run placed parts item misses) n m e = absurd (cc)
run_of_clean (at_spent rest x front back run placed parts item over) n m e = absurd (cc)

clean_only : (end : End) (n m : ℕ) → end_of end ≡ sequence.clean n m → end ≡ Clean n m
clean_only (Clean items bytes) n m e = cc
clean_only (Failed items offset cause) n m e = absurd (cc)

none_rejected : (judge : Judge) (l : Bounds) (b : List ℕ) (found : List Found) (end : End) (rejected : Option Value) (n m : ℕ) → end ≡ Clean n m → IsRejected judge l b found end rejected → rejected ≡ None
none_rejected judge l b found (Clean items bytes) rejected n m e r = r
none_rejected judge l b found (Failed items offset cause) rejected n m e r = absurd (cc)

-- the laws of what is written and of an end that is no want of steps
abbrev pub IsReadFreely : Type 0
IsReadFreely = (table : Table) (l : Bounds) (items : List Value) → AreWritable (IsAccepted table) l items → length (written_bytes items) ≤ last_offset → EndsFreely table l (written_bytes items) (found_from 0 items) (clean_end items)

abbrev pub DecidesFreely : Type 0
DecidesFreely = (judge : Judge) (l : Bounds) (stream : List ℕ) (found : List Found) (end : End) → Ends judge l stream found end → IsDecisive end → EndsFreely judge.table l stream found end

-- the output of such a stream
reads_back : IsReadFreely → DecidesFreely → (mode : Mode) (judge : Judge) (l : Bounds) (stream : List ℕ) (output : Change) (end : End) (rejected : Option Value) (items : List Value) →
    WritesAll mode judge l stream output end rejected → AreWritable (IsAccepted judge.table) l items → length (written_bytes items) ≤ last_offset → stream ≡ written_bytes items → IsDecisive end →
    IsReadBack mode items output end rejected
reads_back freely decide mode judge l stream output end rejected items r w h is decisive =
    let run : IsRunOf l (IsAccepted judge.table) (written_bytes items) (found_from 0 items) [] = run_of_clean (freely judge.table l items w h) (length items) (length (written_bytes items)) refl in
    let ends : Ends judge l (written_bytes items) r.found end = subst (λ (b : List ℕ). Ends judge l b r.found end) is r.ends in
    let one = one_clean (decide judge l (written_bytes items) r.found end ends decisive) run in
    let clean : end ≡ clean_end items = clean_only end (length items) (length (written_bytes items)) (one.1 ∙ ap (λ n. sequence.clean n (length (written_bytes items))) (found_len 0 items)) in
    let none : rejected ≡ None = none_rejected judge l stream r.found end rejected (length items) (length (written_bytes items)) clean r.rejects in
    record {
      clean = clean;
      accepted = none;
      reported = subst (λ (v : Option Value). bytes.Appends output.before output.after (stream_output mode (found_from 0 items) (clean_end items) v)) none
          (subst (λ (f : End). bytes.Appends output.before output.after (stream_output mode (found_from 0 items) f rejected)) clean
          (subst (λ (fs : List Found). bytes.Appends output.before output.after (stream_output mode fs end rejected)) one.0 r.written));
    }

pub read_back : IsReadFreely → DecidesFreely → (mode : Mode) (judge : Judge) (l : Bounds) (stream : Option (List ℕ)) (output : Change) (end : End) (rejected : Option Value) →
    IfSome stream (λ s. WritesAll mode judge l s output end rejected) → (items : List Value) → IsWrittenStream judge.table l items stream → IsDecisive end → IsReadBack mode items output end rejected
read_back freely decide mode judge l None output end rejected r items s decisive = absurd (let e : None ≡ Some (written_bytes items) = s.is in cc)
read_back freely decide mode judge l (Some stream) output end rejected r items s decisive = reads_back freely decide mode judge l stream output end rejected items r s.writable s.short (let e : Some stream ≡ Some (written_bytes items) = s.is in cc) decisive
