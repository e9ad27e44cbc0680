-- What a call answers, by what was read, run and told.
use Rattle.std.proofs.Common.{◌≡◌, ℕ, List, Option, Bool, true, false, length, refl, sym, subst}
use Rattle.cbor_data.specs.Faults.{Bounds}
use Rattle.seq_run.specs.Judge.{Judge, judge_of}
use Rattle.seq_run.specs.declared.end.End.{End}
use Rattle.cddlseq_c.specs.Answers.{HasEnd, IsChecked, IsPut, IsReady, IsStop, IsToldEnd, IsToldWanted, IsUntabled, IsValidated, IsWanted, IsWritten, unchecked, end_told, validated, unvalidated, put, no_room, written, unwritten}
use Rattle.cddlseq_c.specs.Handles.{IsOpened, unopened}
use Rattle.cddlseq_c.specs.Told.{IsStopTold, bounds_of, no_refusal, status_of, status_of_stop, told_end}
use Rattle.cddlseq_c.specs.Wanted.{number_of_wanted}
use Rattle.cddlseq_c.specs.Held.{Held}
use Rattle.cddlseq_c.specs.declared.stop.Stop.{Stop}
use Rattle.cddlseq_c.specs.declared.told.CddlseqEnd.{CddlseqEnd}
use Rattle.cddlseq_c.specs.declared.told.CddlseqLimits.{CddlseqLimits}
use Rattle.cddlseq_c.specs.declared.told.CddlseqRefusal.{CddlseqRefusal}
use Rattle.cddlseq_c.specs.declared.told.TheConstants.{NO_ROOM}
use Rattle.cddlseq_c.specs.declared.wanted.Wanted.{Wanted}

pub stopped_check : (text root : List ℕ) (refusal : CddlseqRefusal) (why : Stop) (status : ℕ) → IsUntabled text root why → status ≡ status_of_stop why → IsStopTold text why refusal → IsChecked text root refusal status
stopped_check text root refusal why status is e told = subst (λ n. IsChecked text root refusal n) (sym e) (unchecked why is told)

pub told_so : (judge : Judge) (l : Bounds) (stream : List ℕ) (old new : CddlseqEnd) (end : End) (status : ℕ) → HasEnd judge l stream end → new ≡ told_end end → status ≡ status_of end → IsToldEnd judge l stream old new status
told_so judge l stream old new end status has told e = subst (λ n. IsToldEnd judge l stream old new n) (sym e) (end_told end has told)

pub told_wanted : (wanted : Wanted) (judge : Judge) (l : Bounds) (stream : List ℕ) (old new : CddlseqEnd) (out_old out_new bytes : List ℕ) (end : End) (needed status : ℕ) → IsWanted wanted judge l stream bytes end → new ≡ told_end end → needed ≡ length bytes → (is_put : Bool) →
    IsPut is_put bytes out_old out_new → is_put ≡ true → status ≡ status_of end → IsToldWanted wanted judge l stream old new out_old out_new needed status
told_wanted wanted judge l stream old new out_old out_new bytes end needed status is told n is_put p fits e =
    subst (λ s. IsToldWanted wanted judge l stream old new out_old out_new needed s) (sym e) (put bytes end is told n (subst (λ b. IsPut b bytes out_old out_new) fits p))

pub without_room : (wanted : Wanted) (judge : Judge) (l : Bounds) (stream : List ℕ) (old new : CddlseqEnd) (out_old out_new bytes : List ℕ) (end : End) (needed : ℕ) → IsWanted wanted judge l stream bytes end → new ≡ told_end end → needed ≡ length bytes → (is_put : Bool) →
    IsPut is_put bytes out_old out_new → is_put ≡ false → IsToldWanted wanted judge l stream old new out_old out_new needed NO_ROOM
without_room wanted judge l stream old new out_old out_new bytes end needed is told n is_put p short = no_room bytes end is told n (subst (λ b. IsPut b bytes out_old out_new) short p)

-- what holds of the table, the limits and the steps that are ready, holds of the text's table and the caller's limits
by_limits : (text root : List ℕ) (limits : CddlseqLimits) (r : Held) (P : Judge → Bounds → Type 0) → IsReady text root limits r → P (judge_of r.table r.steps) r.limits → P (judge_of r.table limits.steps) (bounds_of limits)
by_limits text root limits r P is h = subst (λ l. P (judge_of r.table limits.steps) l) is.limits_are (subst (λ steps. P (judge_of r.table steps) r.limits) is.steps_are h)

module _ (text root : List ℕ) (limits : CddlseqLimits) (refusal : CddlseqRefusal) where
  module _ (r : Held) (is : IsReady text root limits r) (clear : refusal ≡ no_refusal) where
    pub by_ready : (stream : List ℕ) (old new : CddlseqEnd) (status : ℕ) → IsToldEnd (judge_of r.table r.steps) r.limits stream old new status → IsValidated text root stream limits refusal old new status
    by_ready stream old new status told = validated r.table is.tabled clear status (by_limits text root limits r (λ judge l. IsToldEnd judge l stream old new status) is told)

    pub written_by : (stream : List ℕ) (number : ℕ) (wanted : Wanted) (old new : CddlseqEnd) (out_old out_new : List ℕ) (needed status : ℕ) → number ≡ number_of_wanted wanted →
        IsToldWanted wanted (judge_of r.table r.steps) r.limits stream old new out_old out_new needed status → IsWritten text root stream limits number refusal old new out_old out_new needed status
    written_by stream number wanted old new out_old out_new needed status e told =
        written r.table wanted e is.tabled clear status (by_limits text root limits r (λ judge l. IsToldWanted wanted judge l stream old new out_old out_new needed status) is told)

  module _ (why : Stop) (status : ℕ) (is : IsStop limits text root why) (e : status ≡ status_of_stop why) (told : IsStopTold text why refusal) where
    pub stopped_before : (stream : List ℕ) (end : CddlseqEnd) → IsValidated text root stream limits refusal end end status
    stopped_before stream end = subst (λ n. IsValidated text root stream limits refusal end end n) (sym e) (unvalidated why is told refl)

    pub stopped_opening : {X : Type 0} (made_of : Held → X) (held : Option X) → IsOpened made_of text root limits refusal held held status
    stopped_opening made_of held = subst (λ n. IsOpened made_of text root limits refusal held held n) (sym e) (unopened why is told refl)

    pub unwritten_by : (stream : List ℕ) (number : ℕ) (end : CddlseqEnd) (out : List ℕ) → IsWritten text root stream limits number refusal end end out out 0 status
    unwritten_by stream number end out = subst (λ n. IsWritten text root stream limits number refusal end end out out 0 n) (sym e) (unwritten why is told refl refl refl)
