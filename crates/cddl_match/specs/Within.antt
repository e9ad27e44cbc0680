-- What questions and moves come to within a number of steps.
use Rattle.std.specs.Prelude.{ℕ, ◌-◌, ◌<◌, ◌≤◌, max, List, [], Result, Ok, Err}
use Rattle.cbor_data.specs.Value.{Value}
use Rattle.cddl_meaning.specs.Forms.{Language}
use Rattle.cddl_meaning.specs.Judges as J
use Rattle.cddl_meaning.specs.Moves as M
use Rattle.cddl_meaning.specs.Moves.{Question, Move, Answered, Replies, LeadsTo}
use Rattle.cddl_match.specs.Ahead.{ComesTo, Opens}
use Rattle.match_moves.specs.Views.{reply_view}
use Rattle.match_moves.specs.declared.questions.Reply.{Reply}
use Rattle.cddl_match.specs.declared.calls.Said.{Said}
use Rattle.cddl_match.specs.declared.calls.Said.TheVariants as S
use Rattle.cddl_match.specs.declared.calls.Stop.{Stop}
use Rattle.cddl_match.specs.declared.calls.Stop.TheVariants.{Spent, NoMemory}

-- a reply, or why there is none
pub data Outcome : Type 0 where
  Replied : J.Reply → Outcome
  Stopped : Stop → Outcome

-- what is said of an item, and what a group does
abbrev pub said_view : Said → Outcome
said_view (S.Yes next) = Replied (J.Takes [] next 0)
said_view (S.No far) = Replied (J.Fails far)
said_view S.Spent = Stopped Spent
said_view S.NoMemory = Stopped NoMemory

abbrev pub done_view : Result Reply Stop → Outcome
done_view (Ok r) = Replied (reply_view r)
done_view (Err s) = Stopped s

-- what follows from what was asked: for an array, an entry, a simple value, and a byte string
abbrev pub array_outcome : Outcome → Outcome
array_outcome (Replied r) = Replied (M.array_reply r)
array_outcome (Stopped s) = Stopped s

abbrev pub entry_outcome : ℕ → List Value → Outcome → Outcome
entry_outcome base xs (Replied (J.Takes left next far)) = Replied (J.Takes xs next base)
entry_outcome base xs (Replied (J.Fails far)) = Replied (J.Fails (max base far))
entry_outcome base xs (Stopped s) = Stopped s

abbrev pub simple_outcome : ℕ → Outcome → Outcome
simple_outcome p (Replied (J.Takes left next far)) = Replied (J.Takes [] (M.plus p 1) 0)
simple_outcome p (Replied (J.Fails far)) = Replied (J.Fails p)
simple_outcome p (Stopped s) = Stopped s

abbrev pub held_outcome : (place next : ℕ) → Outcome → Outcome
held_outcome p next (Replied (J.Takes left after far)) = Replied (J.Takes [] next 0)
held_outcome p next (Replied (J.Fails far)) = Replied (J.Fails p)
held_outcome p next (Stopped s) = Stopped s

module _ {N G : Type 0} (l : Language N G) where
  -- The question has this outcome, and so many of the steps are left then. Spent steps do not tell the reply.
  abbrev pub Says : Question N G → (steps left : ℕ) → Outcome → Type 0
  Says q steps left (Replied r) = Opens l q (Answered r) (steps - left) × (left ≤ steps)
  Says q steps left (Stopped Spent) = (r : J.Reply) (w : ℕ) → Replies l q r w → steps < w
  Says q steps left (Stopped NoMemory) = Unit {0}

  -- So does a move.
  abbrev pub Ends : Move N G → (steps left : ℕ) → Outcome → Type 0
  Ends m steps left (Replied r) = ComesTo l m (Answered r) (steps - left) × (left ≤ steps)
  Ends m steps left (Stopped Spent) = (r : J.Reply) (w : ℕ) → LeadsTo l m r w → steps < w
  Ends m steps left (Stopped NoMemory) = Unit {0}
