-- What a status says.
use Rattle.std.proofs.Common.{◌≡◌, ◌≢◌, ◌⊎◌, inl, inr, ℕ, ◌<◌, List, [], ◌++◌, length, take, Option, Some, None, IfSome, refl, sym, ◌∙◌, subst}
use Rattle.std.specs.Io.KnownBytes as bytes
use Rattle.cbor_data.specs.Faults.{Bounds}
use Rattle.cbor_data.specs.Value.{Value}
use Rattle.seq_run.specs.declared.end.End.{End}
use Rattle.seq_run.specs.declared.end.End.TheVariants.{Clean, Failed}
use Rattle.seq_run.specs.Judge.{Judge}
use Rattle.seq_run.specs.Running.{Change, HasFailed, HasNotFailed, WritesAll, IsFault}
use Rattle.seq_run.specs.declared.running.RunFault.{RunFault}
use Rattle.command_line.specs.declared.choice.Task.{Task}
use Rattle.command_line.specs.declared.choice.Task.TheVariants.{Check, Validate, Rewrite, Show, Explain}
use Rattle.seq_run.specs.declared.output.Mode.{Mode}
use Rattle.command_line.specs.declared.choice.Options.{Options}
use Rattle.command_line.specs.declared.status.TheConstants.{BROKEN}
use Rattle.command_line.specs.Lines.{memory_line, unexplained_line, write_failed_line}
use Rattle.cddl_explain.specs.declared.subjects.Subject.{Subject}
use Rattle.cddl_explain.specs.Subjects.{explanation_of, IsNameOf}
use Rattle.cddl_tool.specs.Acting.{accepted_line, cut, fault_line, limits_of, mode_of, status_for, told_of, HasNoStream, IsCutIn, IsExplained, explained, cut_short, unknown, no_text, IsAcceptance, stopped, untold, IsSaid}
use Rattle.cddl_tool.specs.Reasons.{AreReasons, AreWanted, IsAnsweredWith, IsBrokenWith, as_ever, unexplained, IsTold, told, no_memory}
use Rattle.cddl_tool.proofs.Refusing.{said_as}

never_broken : (end : End) → status_for end ≡ BROKEN → ⊥
never_broken (Clean items bytes) e = absurd (cc)
never_broken (Failed items offset cause) e = absurd (cc)

-- the line was cut off, and that was told
pub cut_told : (output error : Change) (k status : ℕ) → HasFailed output → k < length accepted_line → bytes.Appends output.before output.after (take k accepted_line) → status ≡ BROKEN → IsSaid error (write_failed_line k) →
    IsAcceptance output error status
cut_told output error k status failed short part is said = subst (λ n. IsAcceptance output error n) (sym is) (cut k (record { failed = failed; short = short; part = part }) said)

tells_no_line : (task : Task) (end : End) (rejected : Option Value) → task ≢ Rewrite → told_of task end rejected ≡ []
tells_no_line Check end rejected h = refl
tells_no_line Validate end rejected h = refl
tells_no_line Rewrite end rejected h = absurd (h refl)
tells_no_line Show end rejected h = refl
tells_no_line Explain end rejected h = refl

-- no reasons are told where none are wanted
pub no_reasons : (o : Options) (text : Option (List ℕ)) (rejected : Option Value) (reasons : List ℕ) → (AreWanted text rejected → ⊥) → AreReasons o text rejected reasons → reasons ≡ []
no_reasons o (Some text) (Some x) reasons none are = absurd (none tt)
no_reasons o (Some text) None reasons none are = are
no_reasons o None rejected reasons none are = are

pub none_wanted : (text : Option (List ℕ)) (rejected : Option Value) → text ≡ None → AreWanted text rejected → ⊥
none_wanted text rejected none wanted = subst (λ (t : Option (List ℕ)). AreWanted t rejected) none wanted

module _ (o : Options) (text : Option (List ℕ)) (error : Change) (end : End) (rejected : Option Value) (status : ℕ) where
  -- the line of the end was told, and the reasons behind it
  pub line_told : o.task ≡ Rewrite → (line : List ℕ) → IsSaid error line → (reasons : List ℕ) × AreReasons o text rejected reasons × (line ≡ told_of Rewrite end rejected ++ reasons) → status ≡ status_for end → IsTold o text end rejected error status
  line_told rewrites line said h is =
      subst (λ n. IsTold o text end rejected error n) (sym is) (told h.0 h.1 (subst (λ (t : Task). IsSaid error (told_of t end rejected ++ h.0)) (sym rewrites) (said_as error line (told_of Rewrite end rejected ++ h.0) h.2 said)))

  -- the reasons alone were told
  pub reasons_told : o.task ≢ Rewrite → (reasons : List ℕ) → AreReasons o text rejected reasons → IsSaid error reasons → status ≡ status_for end → IsTold o text end rejected error status
  reasons_told other reasons are said is =
      subst (λ n. IsTold o text end rejected error n) (sym is) (told reasons are (subst (λ (l : List ℕ). IsSaid error (l ++ reasons)) (sym (tells_no_line o.task end rejected other)) said))

  -- there was no memory for what was to be told
  pub nothing_told : (o.task ≡ Rewrite) ⊎ AreWanted text rejected → status ≡ BROKEN → IsSaid error memory_line → IsTold o text end rejected error status
  nothing_told why is said = subst (λ n. IsTold o text end rejected error n) (sym is) (no_memory why said)

module _ (o : Options) (judge : Judge) (text : Option (List ℕ)) (input output error : Change) (m : Mode) (mode_is : m ≡ mode_of o.task o.quiet o.deterministic) (l : Bounds) (limits_are : l ≡ limits_of o) where
  pub fault_told : (fault : RunFault) → IsFault m judge l input output fault → IsSaid error (fault_line fault) → IsBrokenWith o judge text input output error
  fault_told fault f said =
      as_ever (stopped fault (subst (λ b. IsFault (mode_of o.task o.quiet o.deterministic) judge b input output fault) limits_are (subst (λ n. IsFault n judge l input output fault) mode_is f)) said)

  -- what was written, by the options
  by_options : (s : List ℕ) (end : End) (rejected : Option Value) → WritesAll m judge l s output end rejected → WritesAll (mode_of o.task o.quiet o.deterministic) judge (limits_of o) s output end rejected
  by_options s end rejected w =
      subst (λ b. WritesAll (mode_of o.task o.quiet o.deterministic) judge b s output end rejected) limits_are (subst (λ k. WritesAll k judge l s output end rejected) mode_is w)

  module _ (end : End) (rejected lent : Option Value) (lent_is : lent ≡ rejected) (status : ℕ) (w : IfSome input.before (λ s. WritesAll m judge l s output end rejected)) (t : IsTold o text end lent error status) where
    is_told : IsTold o text end rejected error status
    is_told = subst (λ x. IsTold o text end x error status) lent_is t

    answered_in : (stream : Option (List ℕ)) (n : ℕ) → IfSome stream (λ s. WritesAll m judge l s output end rejected) → IsTold o text end rejected error n → n ≢ BROKEN → IfSome stream (λ s. IsAnsweredWith o judge text s output error n)
    answered_in None n w t h = tt
    answered_in (Some s) n w (told reasons are said) h =
        record { end = end; rejected = rejected; written = by_options s end rejected w; reasons = reasons; are_reasons = are; told = said; is = refl }
    answered_in (Some s) n w (no_memory why said) h = absurd (h refl)

    pub answered : status ≢ BROKEN → IfSome input.before (λ s. IsAnsweredWith o judge text s output error status)
    answered h = answered_in input.before status w is_told h

    whole : (stream : Option (List ℕ)) → IfSome stream (λ s. WritesAll m judge l s output end rejected) →
        IfSome stream (λ s. (e : End) × (r : Option Value) × WritesAll (mode_of o.task o.quiet o.deterministic) judge (limits_of o) s output e r)
    whole None w = tt
    whole (Some s) w = (end, rejected, by_options s end rejected w)

    whole_of : (stream : Option (List ℕ)) → IfSome stream (λ s. WritesAll m judge l s output end rejected) →
        IfSome stream (λ s. (e : End) × WritesAll (mode_of o.task o.quiet o.deterministic) judge (limits_of o) s output e rejected)
    whole_of None w = tt
    whole_of (Some s) w = (end, by_options s end rejected w)

    untold_by : (o.task ≡ Rewrite) ⊎ AreWanted text rejected → IsSaid error memory_line → IsBrokenWith o judge text input output error
    untold_by (inl rewrites) said = as_ever (untold rewrites (whole input.before w) said)
    untold_by (inr wanted) said = unexplained rejected wanted (whole_of input.before w) said

    broken_by : (n : ℕ) → IsTold o text end rejected error n → n ≡ BROKEN → IsBrokenWith o judge text input output error
    broken_by n (told reasons are said) e = absurd (never_broken end e)
    broken_by n (no_memory why said) e = untold_by why said

    pub broken : status ≡ BROKEN → IsBrokenWith o judge text input output error
    broken e = broken_by status is_told e

-- a task with a stream
pub with_stream : (task : Task) → (task ≡ Validate) ⊎ ((task ≡ Rewrite) ⊎ (task ≡ Show)) → HasNoStream task → ⊥
with_stream task (inl e) (inl f) = let h : Check ≡ Validate = sym f ∙ e in absurd (cc)
with_stream task (inr (inl e)) (inl f) = let h : Check ≡ Rewrite = sym f ∙ e in absurd (cc)
with_stream task (inr (inr e)) (inl f) = let h : Check ≡ Show = sym f ∙ e in absurd (cc)
with_stream task (inl e) (inr f) = let h : Explain ≡ Validate = sym f ∙ e in absurd (cc)
with_stream task (inr (inl e)) (inr f) = let h : Explain ≡ Rewrite = sym f ∙ e in absurd (cc)
with_stream task (inr (inr e)) (inr f) = let h : Explain ≡ Show = sym f ∙ e in absurd (cc)

pub is_not_other : (task : Task) → task ≡ Check → task ≡ Explain → ⊥
is_not_other task e f = let h : Check ≡ Explain = sym e ∙ f in absurd (cc)

-- what is told of what is explained
pub written_out : (word text : List ℕ) (s : Subject) (output error : Change) → IsNameOf s word → text ≡ explanation_of s → HasNotFailed output → bytes.Appends output.before output.after text → IsExplained word output error 0
written_out word text s output error named same kept appends = explained s named kept (subst (λ (b : List ℕ). bytes.Appends output.before output.after b) same appends)

pub cut_in : (word text : List ℕ) (s : Subject) (output error : Change) (k status : ℕ) → IsNameOf s word → text ≡ explanation_of s → HasFailed output → k < length text → bytes.Appends output.before output.after (take k text) → status ≡ BROKEN → IsSaid error (write_failed_line k) →
    IsExplained word output error status
cut_in word text s output error k status named same failed short part is said =
    subst (λ n. IsExplained word output error n) (sym is) (cut_short s named k (subst (λ (b : List ℕ). IsCutIn b output k) same (record { failed = failed; short = short; part = part })) said)

pub no_subject : (word : List ℕ) (output error : Change) (status : ℕ) → ((s : Subject) → IsNameOf s word → ⊥) → status ≡ BROKEN → IsSaid error (unexplained_line word) ⊎ IsSaid error memory_line → IsExplained word output error status
no_subject word output error status none is (inl said) = subst (λ n. IsExplained word output error n) (sym is) (unknown none said)
no_subject word output error status none is (inr said) = subst (λ n. IsExplained word output error n) (sym is) (no_text said)

pub untold_text : (word : List ℕ) (output error : Change) (status : ℕ) → status ≡ BROKEN → IsSaid error memory_line → IsExplained word output error status
untold_text word output error status is said = subst (λ n. IsExplained word output error n) (sym is) (no_text said)
