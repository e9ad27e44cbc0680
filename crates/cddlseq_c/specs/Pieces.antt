-- What the calls answer of a stream that comes in pieces.
use Rattle.std.specs.Prelude.{◌≡◌, ◌≢◌, ℕ, List, [], length, true, false, Option, Some, None, Result, Ok, Err}
use Rattle.std.specs.declared.alloc.AllocError.{AllocError}
use Rattle.std.specs.Option.{option_map}
use Rattle.cbor_data.specs.Deterministic.{deterministic}
use Rattle.cbor_data.specs.Preferred.{preferred}
use Rattle.cbor_data.specs.Value.{Value}
use Rattle.seq_run.specs.Answers.{IsAnswer, IsCount, IsFinish, IsLent, IsStep}
use Rattle.seq_run.specs.Judge.{judge_of}
use Rattle.seq_run.specs.Progress.{Progress}
use Rattle.seq_run.specs.declared.end.End.{End}
use Rattle.seq_run.specs.declared.end.End.TheVariants.{Clean, Failed}
use Rattle.seq_run.specs.declared.end.State.{State}
use Rattle.seq_run.specs.declared.end.State.TheVariants as state
use Rattle.seq_run.specs.declared.end.Stopped.{Stopped}
use Rattle.seq_run.specs.declared.end.Stopped.TheVariants.{Ended, Memory}
use Rattle.seq_run.specs.declared.session.Step.{Step}
use Rattle.seq_run.specs.declared.session.Step.TheVariants as step
use Rattle.seq_run.specs.Report.{or_nothing}
use Rattle.cddlseq_c.specs.Answers.{IsPut}
use Rattle.cddlseq_c.specs.Fed.{Fed}
use Rattle.cddlseq_c.specs.Held.{Held}
use Rattle.cddlseq_c.specs.Told.{status_of, told_end}
use Rattle.cddlseq_c.specs.Wanted.{mismatch_of, notation_at, path_to}
use Rattle.cddlseq_c.specs.declared.feeding.Shown.{Shown}
use Rattle.cddlseq_c.specs.declared.feeding.Shown.TheVariants as shown
use Rattle.cddlseq_c.specs.declared.told.CddlseqEnd.{CddlseqEnd}
use Rattle.cddlseq_c.specs.declared.told.TheConstants.{OK, FAILED, NO_MEMORY, BAD_WANTED, NO_ROOM, ITEM, ENDED}

-- How many items were taken so far, and how many bytes they have; and no cause.
pub record IsSoFar (p : Progress) (told : CddlseqEnd) : Type 0 where
  pub count : IsCount p told.items told.offset
  pub no_cause : told.cause ≡ 0
  pub no_place : told.place ≡ 0

-- the status of a stream that takes nothing more
abbrev pub status_after : End → ℕ
status_after (Clean items bytes) = ENDED
status_after (Failed items offset why) = FAILED

-- What is reported for a step, which leaves the session so: how many bytes of the piece are done with, and what was taken so far, or the
-- end. Where memory was refused nothing is reported.
abbrev pub IsStepTold : Result Step AllocError → Progress → List ℕ → ℕ → CddlseqEnd → CddlseqEnd → ℕ → Type 0
IsStepTold (Ok step.More) now piece used old told status = (status ≡ OK) × (used ≡ length piece) × IsSoFar now told
IsStepTold (Ok (step.Item n x)) now piece used old told status = (status ≡ ITEM) × (used ≡ n) × IsSoFar now told
IsStepTold (Ok (step.Ended end)) now piece used old told status = (status ≡ status_after end) × (used ≡ length piece) × (told ≡ told_end end)
IsStepTold (Err e) now piece used old told status = (status ≡ NO_MEMORY) × (used ≡ 0) × (told ≡ old)

-- the item that a step told, if it told one
abbrev pub item_told : Result Step AllocError → Option Value
item_told (Ok step.More) = None
item_told (Ok (step.Item n x)) = Some x
item_told (Ok (step.Ended end)) = None
item_told (Err e) = None

-- What `cddlseq_feed` answers: the session takes a step by the piece, it is told, and the item that it told is kept.
pub record IsFedTo (before now : Fed) (piece : List ℕ) (used : ℕ) (old told : CddlseqEnd) (status : ℕ) : Type 0 where
  pub answer : Result Step AllocError
  pub step : IsStep before.progress.stopped before.progress piece answer now.progress
  pub is_told : IsStepTold answer now.progress piece used old told status
  pub item : now.item ≡ item_told answer

-- what is reported for a piece that was fed whole
abbrev pub IsStateTold : Result State AllocError → Progress → CddlseqEnd → CddlseqEnd → ℕ → Type 0
IsStateTold (Ok state.Open) now old told status = (status ≡ OK) × IsSoFar now told
IsStateTold (Ok (state.Ended end)) now old told status = (status ≡ status_after end) × (told ≡ told_end end)
IsStateTold (Err e) now old told status = (status ≡ NO_MEMORY) × (told ≡ old)

-- What `cddlseq_feed_all` answers: the session takes the whole piece, and this is reported. No item is kept.
pub record IsFedAll (before now : Fed) (piece : List ℕ) (old told : CddlseqEnd) (status : ℕ) : Type 0 where
  pub answer : Result State AllocError
  pub fed : IsAnswer before.progress.stopped before.progress piece answer now.progress
  pub is_told : IsStateTold answer now.progress old told status
  pub item : now.item ≡ None

abbrev pub IsFinishTold : Result End AllocError → CddlseqEnd → CddlseqEnd → ℕ → Type 0
IsFinishTold (Ok end) old told status = (status ≡ status_of end) × (told ≡ told_end end)
IsFinishTold (Err e) old told status = (status ≡ NO_MEMORY) × (told ≡ old)

-- What `cddlseq_finish` answers: the stream ends, and its end is reported; or memory was refused before, and nothing is reported. The item
-- that was kept stays.
pub record IsFinished (before now : Fed) (old told : CddlseqEnd) (status : ℕ) : Type 0 where
  pub answer : Result End AllocError
  pub finish : IsFinish before.progress.stopped before.progress answer now.progress
  pub is_told : IsFinishTold answer old told status
  pub item : now.item ≡ before.item

-- the numbers that these have among all that may be wanted
abbrev pub number_of_shown : Shown → ℕ
number_of_shown shown.Preferred = 2
number_of_shown shown.Deterministic = 3
number_of_shown shown.Path = 4
number_of_shown shown.Notation = 5

-- the place of the mismatch by which a session has ended, if it has
abbrev pub mismatch_at : Option Stopped → Option ℕ
mismatch_at (Some (Ended end)) = mismatch_of end
mismatch_at (Some Memory) = None
mismatch_at None = None

-- These bytes are what is written of the place of the mismatch by which the session has ended, and they are none where it has not.
pub record IsShownPlace (text : Option ℕ → Option Value → List ℕ) (p : Progress) (bytes : List ℕ) : Type 0 where
  pub rejected : Option Value
  pub lent : IsLent p.stopped p rejected
  pub are : bytes ≡ text (mismatch_at p.stopped) rejected

-- These bytes show the place of a mismatch, or the item that was reported last, and they are none where there is none.
abbrev pub Shows : Shown → Fed → List ℕ → Type 0
Shows shown.Path f bytes = IsShownPlace path_to f.progress bytes
Shows shown.Notation f bytes = IsShownPlace notation_at f.progress bytes
Shows shown.Preferred f bytes = bytes ≡ or_nothing (option_map preferred f.item)
Shows shown.Deterministic f bytes = bytes ≡ or_nothing (option_map deterministic f.item)

-- What `cddlseq_show` answers: what is to be shown by the number is written, where there is room for it; or nothing is to be shown
-- by it; or memory was refused.
pub data IsShownBy (number : ℕ) (f : Fed) (out_old out_new : List ℕ) (needed : ℕ) : ℕ → Type 0 where
  shown_put : (shown : Shown) (bytes : List ℕ) → number ≡ number_of_shown shown → Shows shown f bytes → needed ≡ length bytes → IsPut true bytes out_old out_new → IsShownBy number f out_old out_new needed OK
  shown_too_long : (shown : Shown) (bytes : List ℕ) → number ≡ number_of_shown shown → Shows shown f bytes → needed ≡ length bytes → IsPut false bytes out_old out_new → IsShownBy number f out_old out_new needed NO_ROOM
  none_shown : ((shown : Shown) → number ≢ number_of_shown shown) → needed ≡ 0 → out_new ≡ out_old → IsShownBy number f out_old out_new needed BAD_WANTED
  not_shown : needed ≡ 0 → out_new ≡ out_old → IsShownBy number f out_old out_new needed NO_MEMORY

-- a stream at its first byte, by what a handle holds
abbrev pub begun_by : Held → Fed
begun_by h = record { progress = record { judge = judge_of h.table h.steps; limits = h.limits; fed = []; taken = []; stopped = None }; item = None }

-- the next stream by the same specification, at its first byte
abbrev pub restarted : Fed → Fed
restarted f = record { progress = record { judge = f.progress.judge; limits = f.progress.limits; fed = []; taken = []; stopped = None }; item = None }
