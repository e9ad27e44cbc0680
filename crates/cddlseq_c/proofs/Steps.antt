-- What is told of a session, by what it answers.
use Rattle.std.proofs.Common.{◌≡◌, ℕ, List, Result, subst}
use Rattle.std.specs.Prelude.{None}
use Rattle.std.specs.declared.alloc.AllocError.{AllocError}
use Rattle.seq_run.specs.Answers.{IsAnswer, IsStep}
use Rattle.seq_run.specs.declared.end.State.{State}
use Rattle.seq_run.specs.declared.session.Step.{Step}
use Rattle.cddlseq_c.specs.Fed.{Fed}
use Rattle.cddlseq_c.specs.Pieces.{IsFedAll, IsFedTo, IsStateTold, IsStepTold, item_told}
use Rattle.cddlseq_c.specs.declared.told.CddlseqEnd.{CddlseqEnd}

pub fed_to : (before now : Fed) (piece : List ℕ) (used : ℕ) (old told : CddlseqEnd) (status : ℕ) (answer is : Result Step AllocError) → IsStep before.progress.stopped before.progress piece answer now.progress → answer ≡ is →
    IsStepTold is now.progress piece used old told status → now.item ≡ item_told is → IsFedTo before now piece used old told status
fed_to before now piece used old told status answer is step e so kept = record { answer = is; step = subst (λ (r : Result Step AllocError). IsStep before.progress.stopped before.progress piece r now.progress) e step; is_told = so; item = kept }

pub fed_all : (before now : Fed) (piece : List ℕ) (old told : CddlseqEnd) (status : ℕ) (answer is : Result State AllocError) → IsAnswer before.progress.stopped before.progress piece answer now.progress → answer ≡ is →
    IsStateTold is now.progress old told status → now.item ≡ None → IsFedAll before now piece old told status
fed_all before now piece old told status answer is fed e so kept = record { answer = is; fed = subst (λ (r : Result State AllocError). IsAnswer before.progress.stopped before.progress piece r now.progress) e fed; is_told = so; item = kept }
