use Rattle.std.proofs.Common.{subst}
use Rattle.cddl_meaning.specs.Moves.{Answered}
use Rattle.cddl_reasons.specs.Opened.{StandsAt}
use Rattle.cddl_reasons.proofs.Tellings.{taken_some}
use Rattle.match_moves.specs.Views.{reply_view}
use Rattle.table_nodes.specs.Language.{language_of}
use Rattle.cddl_reasons.proofs.telling.tell.Goals as goal

pub returns-in-Fails : goal.returns-in-Fails
returns-in-Fails c = λ first at a.
    let run = c.args.run.now in
    let here = subst (λ r. StandsAt (language_of c.args.table.now) first run.below.items run.last (Answered (reply_view r))) c.in-Fails.is at in
    c.in_ok-tell_fault-in-Fails.ensures first here a

pub returns-in-Takes : goal.returns-in-Takes
returns-in-Takes c = λ first at a. rw c.forget.ensures (taken_some (language_of c.args.table.now) first c.args.aim.most c.args.run.now.last.mark.reasons c.args.found.now.list.items a)
