use Rattle.std.proofs.Common.{◌≡◌, [], ◌∷◌, ◌++◌, subst}
use Rattle.cddl_meaning.specs.Moves.{Answered}
use Rattle.match_moves.specs.Views.{reply_view}
use Rattle.cddl_reasons.specs.Opened.{StandsAt}
use Rattle.cddl_reasons.proofs.Steps.{stands_answered}
use Rattle.cddl_reasons.proofs.turns.reply_to_last.Goals as goal

pub returns : goal.returns
returns c = λ e l first at.
    let last = c.args.run.now.last in
    let r = reply_view c.args.reply in
    let items : c.args.run.now.below.items ≡ c.pop.new.self.items ++ c.in-Some.last ∷ [] = c.in-Some.ensures.items in
    let on = stands_answered l first c.pop.new.self.items c.in-Some.last last r (subst (λ xs. StandsAt l first xs last (Answered r)) items at) in
    rw (c.next_move.ensures, c.in_ok-note_counts.ensures.question, c.in_ok-note_counts.ensures.pending) on
