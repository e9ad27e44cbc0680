-- What the calls by a handle answer.
use Rattle.std.specs.Prelude.{ℕ, ◌≡◌, List, Option, Some, None}
use Rattle.seq_run.specs.Judge.{judge_of}
use Rattle.cddlseq_c.specs.Answers.{IsReady, IsStop, IsToldEnd, IsWrittenBy}
use Rattle.cddlseq_c.specs.Explained.{IsUntouched}
use Rattle.cddlseq_c.specs.Fed.{Fed}
use Rattle.cddlseq_c.specs.Held.{Held}
use Rattle.cddlseq_c.specs.Pieces.{IsFedAll, IsFedTo, IsFinished, IsShownBy}
use Rattle.cddlseq_c.specs.Told.{IsStopTold, no_refusal, status_of_stop}
use Rattle.cddlseq_c.specs.declared.stop.Stop.{Stop}
use Rattle.cddlseq_c.specs.declared.told.CddlseqEnd.{CddlseqEnd}
use Rattle.cddlseq_c.specs.declared.told.CddlseqLimits.{CddlseqLimits}
use Rattle.cddlseq_c.specs.declared.told.CddlseqRefusal.{CddlseqRefusal}
use Rattle.cddlseq_c.specs.declared.told.TheConstants.{OK, NO_MEMORY, CLOSED}

-- What `cddlseq_open` and `cddlseq_begin` answer: the text is ready, with these limits, and what is made of that is held from now on;
-- or this is why it is not, and what was held is held still.
pub data IsOpened {X : Type 0} (made_of : Held → X) (text root : List ℕ) (limits : CddlseqLimits) (refusal : CddlseqRefusal) (old new : Option X) : ℕ → Type 0 where
  opened : (ready : Held) → IsReady text root limits ready → refusal ≡ no_refusal → new ≡ Some (made_of ready) → IsOpened made_of text root limits refusal old new OK
  unopened : (why : Stop) → IsStop limits text root why → IsStopTold text why refusal → new ≡ old → IsOpened made_of text root limits refusal old new (status_of_stop why)

-- What a call by a handle answers: this, of what it holds; or, where it holds nothing, that it is closed, and this.
pub data IsAnsweredBy {X : Type 0} (held : Option X) (of_it : X → ℕ → Type 0) (of_nothing : Type 0) : ℕ → Type 0 where
  by_it : (x : X) → held ≡ Some x → (status : ℕ) → of_it x status → IsAnsweredBy held of_it of_nothing status
  by_nothing : held ≡ None → of_nothing → IsAnsweredBy held of_it of_nothing CLOSED

-- What is made of this is held from now on; or memory was refused, and what was held is held still.
pub data IsMade {X : Type 0} (made : X) (old new : Option X) : ℕ → Type 0 where
  is_made : new ≡ Some made → IsMade made old new OK
  unmade : new ≡ old → IsMade made old new NO_MEMORY

-- What `cddlseq_share` and `cddlseq_begin_by` answer.
abbrev pub IsMadeBy : {X : Type 0} → (Held → X) → Option Held → Option X → Option X → ℕ → Type 0
IsMadeBy made_of held old new = IsAnsweredBy held (λ h. IsMade (made_of h) old new) (new ≡ old)

-- What `cddlseq_validate_by` answers.
abbrev pub IsValidatedBy : Option Held → List ℕ → CddlseqEnd → CddlseqEnd → ℕ → Type 0
IsValidatedBy held stream old new = IsAnsweredBy held (λ h. IsToldEnd (judge_of h.table h.steps) h.limits stream old new) (new ≡ old)

-- that nothing is reported for a stream, and nothing is written
pub record IsUntold (old new : CddlseqEnd) (out_old out_new : List ℕ) (needed : ℕ) : Type 0 where
  pub end : new ≡ old
  pub out : out_new ≡ out_old
  pub no_bytes : needed ≡ 0

-- What `cddlseq_write_by` answers.
abbrev pub IsWrittenFor : Option Held → ℕ → List ℕ → CddlseqEnd → CddlseqEnd → List ℕ → List ℕ → ℕ → ℕ → Type 0
IsWrittenFor held number stream old new out_old out_new needed =
    IsAnsweredBy held (λ h. IsWrittenBy number (judge_of h.table h.steps) h.limits stream old new out_old out_new needed) (IsUntold old new out_old out_new needed)

-- A session goes on: this holds of how far it had come and how far it has come.
pub record GoesOn (of_both : Fed → Fed → ℕ → Type 0) (new : Option Fed) (before : Fed) (status : ℕ) : Type 0 where
  pub now : Fed
  pub held : new ≡ Some now
  pub is : of_both before now status

-- where there is no session, there is none still
pub record IsUnfed (new : Option Fed) (used : ℕ) (old_end new_end : CddlseqEnd) : Type 0 where
  pub none : new ≡ None
  pub unused : used ≡ 0
  pub end : new_end ≡ old_end

-- What `cddlseq_feed` answers.
abbrev pub IsFedBy : Option Fed → Option Fed → List ℕ → ℕ → CddlseqEnd → CddlseqEnd → ℕ → Type 0
IsFedBy old new piece used old_end new_end =
    IsAnsweredBy old (GoesOn (λ before now. IsFedTo before now piece used old_end new_end) new) (IsUnfed new used old_end new_end)

-- What `cddlseq_feed_all` answers.
abbrev pub IsFedAllBy : Option Fed → Option Fed → List ℕ → CddlseqEnd → CddlseqEnd → ℕ → Type 0
IsFedAllBy old new piece old_end new_end =
    IsAnsweredBy old (GoesOn (λ before now. IsFedAll before now piece old_end new_end) new) (IsUnfed new 0 old_end new_end)

-- What `cddlseq_finish` answers.
abbrev pub IsFinishedBy : Option Fed → Option Fed → CddlseqEnd → CddlseqEnd → ℕ → Type 0
IsFinishedBy old new old_end new_end =
    IsAnsweredBy old (GoesOn (λ before now. IsFinished before now old_end new_end) new) (IsUnfed new 0 old_end new_end)

-- What `cddlseq_show` answers.
abbrev pub IsShownFor : Option Fed → ℕ → List ℕ → List ℕ → ℕ → ℕ → Type 0
IsShownFor held number out_old out_new needed = IsAnsweredBy held (λ f. IsShownBy number f out_old out_new needed) (IsUntouched out_old out_new needed)
