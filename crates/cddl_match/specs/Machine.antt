-- What a run of the matcher's turns is, and what a turn does.
use Rattle.std.specs.Prelude.{◌≡◌, ℕ, ◌+◌, ◌-◌, ◌<◌, ◌≤◌, ◌⊎◌, List, [], ◌∷◌, ◌++◌, Bool, true, false, length, map, reverse}
use Rattle.cbor_data.specs.Value.{Value, no_pairs}
use Rattle.cddl_meaning.specs.Forms.{Language}
use Rattle.cddl_meaning.specs.Judges as J
use Rattle.cddl_meaning.specs.Judges.{Answer, Yes, No}
use Rattle.cddl_meaning.specs.Moves as M
use Rattle.cddl_meaning.specs.Moves.{Question, OfType, Pending, Move}
use Rattle.table_nodes.specs.Language.{RootSays, root_of}
use Rattle.table_nodes.specs.declared.nodes.GroupId.{GroupId}
use Rattle.table_nodes.specs.declared.nodes.TypeId.{TypeId}
use Rattle.table_nodes.specs.declared.table.Table.{Table}
use Rattle.cddl_match.specs.Open.{AreOpenWith, NeedsRoom}
use Rattle.cddl_match.specs.Unwinding.{IsOnTheWay}
use Rattle.match_moves.specs.Views.{move_view, pending_view, question_view, reply_view}
use Rattle.cddl_match.specs.Within.{Outcome, Replied, Stopped, Says}
use Rattle.cddl_match.specs.declared.answers.Verdict.{Verdict}
use Rattle.cddl_match.specs.declared.answers.Verdict.TheVariants as V
use Rattle.match_moves.specs.declared.questions.Move as C
use Rattle.match_moves.specs.declared.questions.Move.TheVariants as D
use Rattle.match_moves.specs.declared.questions.Question as Q
use Rattle.cddl_match.specs.declared.calls.Stop.TheVariants as S
use Rattle.cddl_match.specs.declared.stack.Turned.{Turned}
use Rattle.cddl_match.specs.declared.stack.Turned.TheVariants as T
use Rattle.cddl_match.specs.declared.stack.Run.{Run}
use Rattle.cddl_match.specs.declared.stack.Waiting.{Waiting}

-- whether the question is one of an alternative of a map
abbrev pub is_alternative : {N G : Type 0} → Question N G → Bool
is_alternative (M.OfType n p x) = false
is_alternative (M.OfGroup g base q xs) = false
is_alternative (M.OfAlternative es base ps) = true

-- the question that was noted
abbrev pub noted : List Q.Question → M.Question TypeId GroupId
noted [] = M.OfAlternative [] 0 no_pairs
noted (q ∷ qs) = question_view q

-- the open questions, the first one first, and how each waits, the last one first
abbrev pub asked_in : List Waiting → List (M.Question TypeId GroupId)
asked_in ws = map (λ w. noted w.asked) ws

abbrev pub pending_in : List Waiting → List (M.Pending TypeId GroupId)
pending_in ws = reverse (map (λ w. pending_view w.pending) ws)

-- what waits for the reply to a further question, which the last one asks, and what waits for the reply to each open one:
-- nothing goes on with the reply to the first
abbrev pub last_of : List (M.Pending TypeId GroupId) → M.Pending TypeId GroupId
last_of [] = M.InRef
last_of (o ∷ os) = o

abbrev pub below : List (M.Pending TypeId GroupId) → List (M.Pending TypeId GroupId)
below [] = []
below (o ∷ os) = os ++ M.InRef ∷ []

-- what the root type is asked
abbrev pub root_question : Table → Value → M.Question TypeId GroupId
root_question t x = OfType (root_of t) 0 x

-- After so many steps these questions are open, the last one first, and this is the next move.
pub record IsAt {N G : Type 0} (l : Language N G) (first : Question N G) (taken : ℕ) (qs : List (Question N G)) (os : List (Pending N G)) (m : Move N G) : Type 0 where
  pub way : IsOnTheWay l first taken os m
  pub opened : AreOpenWith l first qs os m

-- So it is of these questions that wait, the first one first.
abbrev pub WaitsAt : Language TypeId GroupId → M.Question TypeId GroupId → ℕ → List Waiting → M.Move TypeId GroupId → Type 0
WaitsAt l first taken ws m = IsAt l first taken (reverse (asked_in ws)) (below (pending_in ws)) m

-- the question that the last open one asks, and the next move of a run
abbrev pub asks_in : Run → M.Question TypeId GroupId → M.Move TypeId GroupId
asks_in r q = M.Asks q (last_of (pending_in r.waiting.items))

abbrev pub next_in : Run → M.Move TypeId GroupId
next_in r = move_view r.next (last_of (pending_in r.waiting.items))

-- The run, which began with this question, has come so far. The steps that it owes, for bits that are set, are taken in the
-- turns to come, with nothing asked.
pub record IsRun (l : Language TypeId GroupId) (first : M.Question TypeId GroupId) (r : Run) : Type 0 where
  pub at : WaitsAt l first (r.taken + r.owed) r.waiting.items (next_in r)
  pub owes : 0 < r.owed → 0 < length (asked_in r.waiting.items)

-- what a type's reply says
abbrev pub verdict_of : J.Reply → Verdict
verdict_of (J.Takes left next far) = V.Yes
verdict_of (J.Fails far) = V.No far

-- what is found where a turn ends so, with the next move
abbrev pub found_in : Turned → C.Move → Outcome
found_in T.Replied (D.Answered r) = Replied (reply_view r)
found_in T.Replied _ = Stopped S.NoMemory
found_in T.Spent m = Stopped S.Spent
found_in T.GoesOn m = Stopped S.NoMemory
found_in T.NoMemory m = Stopped S.NoMemory

-- The verdict is the definition's, or the steps are spent.
abbrev pub IsVerdict : Table → Value → ℕ → Verdict → Type 0
IsVerdict t x steps V.Yes = (w : ℕ) × RootSays t x Yes w × (w ≤ steps)
IsVerdict t x steps (V.No place) = (w : ℕ) × RootSays t x (No place) w × (w ≤ steps)
IsVerdict t x steps V.Spent = (a : Answer) (w : ℕ) → RootSays t x a w → steps < w

-- A turn takes one step, and asks one question more or none; or it takes the last question off.
abbrev pub IsTurn : (taken : ℕ) → List (Question TypeId GroupId) → (taken : ℕ) → List (Question TypeId GroupId) → Type 0
IsTurn taken qs later rs = ((later ≡ taken + 1) × ((rs ≡ qs) ⊎ ((q : Question TypeId GroupId) × (rs ≡ qs ++ q ∷ [])))) ⊎ ((later ≡ taken) × ((q : Question TypeId GroupId) × (qs ≡ rs ++ q ∷ [])))

-- the last of these questions, of which the first stands first, needs room beside that for questions
abbrev pub LastNeedsRoom : Language TypeId GroupId → List (Question TypeId GroupId) → Type 0
LastNeedsRoom l qs = (q : Question TypeId GroupId) × (rs : List (Question TypeId GroupId)) × (qs ≡ rs ++ q ∷ []) × NeedsRoom l q

-- A turn that goes on: the run has come a turn further, and some question is open.
pub record IsStep (l : Language TypeId GroupId) (first : M.Question TypeId GroupId) (steps : ℕ) (before after : Run) : Type 0 where
  pub run : IsRun l first after
  pub within : after.taken ≤ steps
  pub turn : IsTurn before.taken (asked_in before.waiting.items) after.taken (asked_in after.waiting.items)
  pub some : 0 < length (asked_in after.waiting.items)

-- The list of open questions as it was, and the steps.
pub record IsKept (before after : Run) : Type 0 where
  pub asked : asked_in after.waiting.items ≡ asked_in before.waiting.items
  pub taken : after.taken ≡ before.taken

-- A turn goes on from this move, whatever question the run began with; and what is found at this move.
abbrev pub GoesFrom : Language TypeId GroupId → ℕ → Run → M.Move TypeId GroupId → Run → Type 0
GoesFrom l steps before m after = (first : M.Question TypeId GroupId) → WaitsAt l first before.taken before.waiting.items m → before.taken ≤ steps → IsStep l first steps before after

abbrev pub FindsAt : Language TypeId GroupId → ℕ → Run → M.Move TypeId GroupId → Outcome → Type 0
FindsAt l steps before m o = (first : M.Question TypeId GroupId) → WaitsAt l first before.taken before.waiting.items m → before.taken ≤ steps → Says l first steps (steps - before.taken) o

-- So it is of a run, which may owe steps.
abbrev pub Goes : Language TypeId GroupId → ℕ → Run → Run → Type 0
Goes l steps before after = (first : M.Question TypeId GroupId) → IsRun l first before → before.taken ≤ steps → IsStep l first steps before after

abbrev pub Finds : Language TypeId GroupId → ℕ → Run → Outcome → Type 0
Finds l steps before o = (first : M.Question TypeId GroupId) → IsRun l first before → before.taken ≤ steps → Says l first steps (steps - before.taken) o

-- Room beside that for questions is needed, if the run did not begin with an alternative of a map.
abbrev pub NeedsMore : Language TypeId GroupId → Run → M.Move TypeId GroupId → Type 0
NeedsMore l before m = (first : M.Question TypeId GroupId) (taken : ℕ) → is_alternative first ≡ false → WaitsAt l first taken before.waiting.items m → LastNeedsRoom l (asked_in before.waiting.items)
