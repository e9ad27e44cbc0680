-- What each turn keeps.
use Rattle.std.proofs.Common.{◌≡◌, List, [], ◌∷◌, ◌++◌, reverse, ap, ◌∙◌}
use Rattle.std.proofs.lemmas.List.{map-append, reverse-append}
use Rattle.cddl_meaning.specs.Forms.{Language}
use Rattle.cddl_meaning.specs.Judges.{Reply}
use Rattle.cddl_meaning.specs.Moves.{Question, InRef, Answered, Asks, first_move, next_move}
use Rattle.cddl_match.specs.Open.{AreOpenWith}
use Rattle.cddl_match.proofs.Lemmas.{open_asked, open_answered}
use Rattle.cddl_reasons.specs.Opened.{IsOpen, StandsAt, asked_in, waits_in}
use Rattle.cddl_reasons.specs.declared.run.Open.{Open}
use Rattle.cddl_reasons.specs.declared.run.Run.{Run}
use Rattle.match_moves.specs.Views.{move_view, pending_view, question_view}
use Rattle.match_moves.specs.declared.questions.Move as C
use Rattle.table_nodes.specs.declared.nodes.GroupId.{GroupId}
use Rattle.table_nodes.specs.declared.nodes.TypeId.{TypeId}

pub asked_push : (os : List Open) (o : Open) → reverse (asked_in (os ++ o ∷ [])) ≡ question_view o.question ∷ reverse (asked_in os)
asked_push os o = ap reverse (map-append (λ (o : Open). question_view o.question) os (o ∷ [])) ∙ reverse-append (asked_in os) (question_view o.question ∷ [])

pub waits_push : (os : List Open) (o : Open) → reverse (waits_in (os ++ o ∷ [])) ≡ pending_view o.pending ∷ reverse (waits_in os)
waits_push os o = ap reverse (map-append (λ (o : Open). pending_view o.pending) os (o ∷ [])) ∙ reverse-append (waits_in os) (pending_view o.pending ∷ [])

module _ (l : Language TypeId GroupId) (first : Question TypeId GroupId) where
  -- a question is asked
  stands_asked : (below : List Open) (last : Open) (q : Question TypeId GroupId) → StandsAt l first below last (Asks q (pending_view last.pending)) → AreOpenWith l first (q ∷ reverse (asked_in (below ++ last ∷ []))) (reverse (waits_in (below ++ last ∷ [])) ++ InRef ∷ []) (first_move l q)
  stands_asked below last q h = rw (asked_push below last, waits_push below last) (open_asked l h)

  pub stands_put : (old new : Run) (asked : Open) (next : C.Move) (q : Question TypeId GroupId) → new.below.items ≡ old.below.items ++ old.last ∷ [] → new.last ≡ asked → new.next ≡ next → question_view asked.question ≡ q → move_view next (pending_view asked.pending) ≡ first_move l q → StandsAt l first old.below.items old.last (Asks q (pending_view old.last.pending)) → IsOpen l first new
  stands_put old new asked next q items last on same move h = rw (items, last, on, same, move) (stands_asked old.below.items old.last q h)

  -- the last question has its reply, and the one below it goes on
  pub stands_answered : (below : List Open) (next last : Open) (r : Reply) → StandsAt l first (below ++ next ∷ []) last (Answered r) → StandsAt l first below next (next_move (pending_view next.pending) r)
  stands_answered below next last r h = let here = rw (asked_push below next, waits_push below next) at h in open_answered l here
