-- What a piece led to, by the reader and the specification.
use Rattle.std.specs.Prelude.{◌≡◌, ℕ, List, [], Option, Some, None, Result, Ok, Err}
use Rattle.std.specs.declared.alloc.AllocError.{AllocError}
use Rattle.cbor_data.specs.Value.{Value}
use Rattle.cbor_read.specs.Answers.{IsGoingOn, IsTaken, IsRefused}
use Rattle.cbor_read.specs.Reading.{Reading}
use Rattle.seq_run.specs.declared.end.Cause.{Cause}
use Rattle.seq_run.specs.declared.end.Cause.TheVariants.{Fault, Mismatch, Spent}
use Rattle.seq_run.specs.declared.session.Judged.{Judged}
use Rattle.seq_run.specs.declared.session.Judged.TheVariants.{More, Accepted, Failed}
use Rattle.seq_run.specs.Ends.{Accepts, Misses, Overruns}
use Rattle.seq_run.specs.Judge.{Judge}

-- why what comes fails, and the item where it does not match
abbrev pub IsFailing : Judge → Reading → List ℕ → Cause → Option Value → Reading → Type 0
IsFailing judge old piece (Fault f) rejected new = (used : ℕ) × IsRefused old piece used f new × (rejected ≡ None)
IsFailing judge old piece (Mismatch place) rejected new = (used : ℕ) × (x : Value) × IsTaken old piece used x new × Misses judge x [] place × (rejected ≡ Some x)
IsFailing judge old piece Spent rejected new = (used : ℕ) × (x : Value) × IsTaken old piece used x new × Overruns judge x [] × (rejected ≡ None)

abbrev pub IsJudged : Judge → Reading → List ℕ → Result Judged AllocError → Reading → Type 0
IsJudged judge old piece (Ok More) new = IsGoingOn old piece new
IsJudged judge old piece (Ok (Accepted used x)) new = IsTaken old piece used x new × Accepts judge x []
IsJudged judge old piece (Ok (Failed cause rejected)) new = IsFailing judge old piece cause rejected new
IsJudged judge old piece (Err e) new = new.limits ≡ old.limits
