-- One stream more is told.
use Rattle.std.proofs.Common.{◌≡◌, ◌≢◌, ℕ, ◌+◌, ◌<◌, List, length, drop, set, Some, refl, sym, ap, ◌∙◌, subst, arith, below_more}
use Rattle.std.specs.Prelude.{slice_range, slice_index}
use Rattle.std.proofs.lemmas.List.{length-set, drop-set-lt, drop-drop}
use Rattle.lists.proofs.Lemmas.{set_elsewhere as get_set_other, set_there as get_set_same}
use Rattle.cbor_data.specs.Faults.{Bounds}
use Rattle.seq_run.specs.Judge.{Judge, judge_of}
use Rattle.seq_run.specs.declared.end.End.{End}
use Rattle.cddlseq_c.specs.Answers.{AreTold, AreValidated, HasEnd, IsReady, IsStop, IsStream, IsToldAt, IsToldMany, all_validated, none_validated}
use Rattle.cddlseq_c.specs.Told.{IsStopTold, no_refusal, status_of_stop, told_end}
use Rattle.cddlseq_c.specs.Held.{Held}
use Rattle.cddlseq_c.specs.declared.stop.Stop.{Stop}
use Rattle.cddlseq_c.specs.declared.told.CddlseqEnd.{CddlseqEnd}
use Rattle.cddlseq_c.specs.declared.told.CddlseqLimits.{CddlseqLimits}
use Rattle.cddlseq_c.specs.declared.told.CddlseqRefusal.{CddlseqRefusal}

module _ (judge : Judge) (l : Bounds) (bytes offsets : List ℕ) where
  pub none_told : (ends : List CddlseqEnd) → AreTold judge l bytes offsets ends ends 0
  none_told ends = record { told = λ k h. absurd (omega arith); kept = refl; within = omega arith }

  pub one_more : (old new : List CddlseqEnd) (n : ℕ) (end : End) (told : CddlseqEnd) (stream : List ℕ) → AreTold judge l bytes offsets old new n → IsStream bytes offsets n →
      stream ≡ slice_range bytes (slice_index offsets n) (slice_index offsets (n + 1)) → HasEnd judge l stream end → told ≡ told_end end → n < length new → AreTold judge l bytes offsets old (set new n told) (n + 1)
  one_more old new n end told stream are is same has e fits =
      let here : IsToldAt judge l bytes offsets (set new n told) n = record {
        stream = is;
        end = end;
        is = subst (λ s. HasEnd judge l s end) same has;
        told = get_set_same new n told fits ∙ ap (λ t. Some t) e;
      } in
      let before : (k : ℕ) → k < n → IsToldAt judge l bytes offsets (set new n told) k = λ k h. (let at = are.told k h in let other : k ≢ n = omega arith in record { stream = at.stream; end = at.end; is = at.is; told = get_set_other new n k told other ∙ at.told }) in
      record {
        told = below_more (IsToldAt judge l bytes offsets (set new n told)) n before here;
        kept = drop-set-lt (n + 1) new n told (omega arith) ∙ sym (drop-drop 1 n new) ∙ ap (drop 1) are.kept ∙ drop-drop 1 n old;
        within = omega (arith, length-set new n told);
      }

module _ (text root bytes offsets : List ℕ) (limits : CddlseqLimits) (refusal : CddlseqRefusal) where
  pub all_by : (r : Held) (old new : List CddlseqEnd) (n status : ℕ) → IsReady text root limits r → length offsets ≡ length old + 1 → refusal ≡ no_refusal → IsToldMany (judge_of r.table r.steps) r.limits bytes offsets old new n status → AreValidated text root bytes offsets limits refusal old new n status
  all_by r old new n status is fits clear told =
      all_validated r.table fits is.tabled clear status
      (subst (λ l. IsToldMany (judge_of r.table limits.steps) l bytes offsets old new n status) is.limits_are (subst (λ steps. IsToldMany (judge_of r.table steps) r.limits bytes offsets old new n status) is.steps_are told))

  pub none_by : (why : Stop) (ends : List CddlseqEnd) (status : ℕ) → IsStop limits text root why → status ≡ status_of_stop why → IsStopTold text why refusal → AreValidated text root bytes offsets limits refusal ends ends 0 status
  none_by why ends status is e told = subst (λ s. AreValidated text root bytes offsets limits refusal ends ends 0 s) (sym e) (none_validated why is told refl refl)
