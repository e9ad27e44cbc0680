-- What is open in a run.
use Rattle.std.specs.Prelude.{List, [], ◌∷◌, ◌++◌, map, reverse}
use Rattle.cddl_meaning.specs.Forms.{Language}
use Rattle.cddl_meaning.specs.Moves as M
use Rattle.cddl_match.specs.Open.{AreOpenWith}
use Rattle.match_moves.specs.Views.{move_view, pending_view, question_view}
use Rattle.table_nodes.specs.declared.nodes.GroupId.{GroupId}
use Rattle.table_nodes.specs.declared.nodes.TypeId.{TypeId}
use Rattle.cddl_reasons.specs.declared.run.Open.{Open}
use Rattle.cddl_reasons.specs.declared.run.Run.{Run}

-- the open questions, the first one first, and how each waits
abbrev pub asked_in : List Open → List (M.Question TypeId GroupId)
asked_in os = map (λ (o : Open). question_view o.question) os

abbrev pub waits_in : List Open → List (M.Pending TypeId GroupId)
waits_in os = map (λ (o : Open). pending_view o.pending) os

-- Below the last one these questions are open, and it has come to this move.
abbrev pub StandsAt : Language TypeId GroupId → M.Question TypeId GroupId → List Open → Open → M.Move TypeId GroupId → Type 0
StandsAt l first below last m = AreOpenWith l first (question_view last.question ∷ reverse (asked_in below)) (reverse (waits_in below) ++ M.InRef ∷ []) m

-- The run, which began with this question, has come so far.
abbrev pub IsOpen : Language TypeId GroupId → M.Question TypeId GroupId → Run → Type 0
IsOpen l first r = StandsAt l first r.below.items r.last (move_view r.next (pending_view r.last.pending))
