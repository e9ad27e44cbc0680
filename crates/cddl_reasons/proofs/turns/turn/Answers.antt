use Rattle.std.proofs.Common.{◌≡◌, subst}
use Rattle.cddl_match.proofs.Lemmas.{open_weighed}
use Rattle.cddl_reasons.specs.Opened.{StandsAt}
use Rattle.match_moves.specs.Views.{move_view, pending_view}
use Rattle.match_moves.specs.declared.questions.Move.TheVariants as D
use Rattle.table_nodes.specs.Language.{language_of}
use Rattle.cddl_reasons.proofs.turns.turn.Goals as goal

pub returns-in-Asks-clause-opened : goal.returns-in-Asks-clause-opened
returns-in-Asks-clause-opened c = λ e first h.
    let l = language_of c.args.table.now in
    let run = c.args.run.now in
    let is : c.args.run.now.next ≡ D.Asks c.in-Asks.question = cc (c.replace-next.ensures.value, c.in-Asks.is) in
    let at = subst (λ m. StandsAt l first run.below.items run.last (move_view m (pending_view run.last.pending))) is h in
    c.in_ok-ask-in-Asks.ensures first at

pub returns-in-Asks-clause-found : goal.returns-in-Asks-clause-found
returns-in-Asks-clause-found c = λ first h a.
    a

pub returns-in-Answered-clause-opened : goal.returns-in-Answered-clause-opened
returns-in-Answered-clause-opened c = λ e first h.
    let l = language_of c.args.table.now in
    let run = c.args.run.now in
    let is : c.args.run.now.next ≡ D.Answered c.in-Answered.reply = cc (c.replace-next.ensures.value, c.in-Answered.is) in
    let at = subst (λ m. StandsAt l first run.below.items run.last (move_view m (pending_view run.last.pending))) is h in
    c.in_ok-reply_to_last-in-Answered.ensures e l first at

pub returns-in-Answered-clause-found : goal.returns-in-Answered-clause-found
returns-in-Answered-clause-found c = λ first h a.
    let l = language_of c.args.table.now in
    let run = c.args.run.now in
    let is : c.args.run.now.next ≡ D.Answered c.in-Answered.reply = cc (c.replace-next.ensures.value, c.in-Answered.is) in
    let at = subst (λ m. StandsAt l first run.below.items run.last (move_view m (pending_view run.last.pending))) is h in
    c.in_ok-tell-in-Answered.ensures first (rw c.again.ensures at) a

pub returns-in-Tries-clause-opened : goal.returns-in-Tries-clause-opened
returns-in-Tries-clause-opened c = λ e first h.
    let l = language_of c.args.table.now in
    let run = c.args.run.now in
    let is : c.args.run.now.next ≡ D.Tries c.in-Tries.sorting = cc (c.replace-next.ensures.value, c.in-Tries.is) in
    let at = subst (λ m. StandsAt l first run.below.items run.last (move_view m (pending_view run.last.pending))) is h in
    c.try_pair.ensures l first at

pub returns-in-Tries-clause-found : goal.returns-in-Tries-clause-found
returns-in-Tries-clause-found c = λ first h a.
    a

pub returns-in-Enters-clause-opened : goal.returns-in-Enters-clause-opened
returns-in-Enters-clause-opened c = λ e first h.
    let l = language_of c.args.table.now in
    let run = c.args.run.now in
    let is : c.args.run.now.next ≡ D.Enters c.in-Enters.entering = cc (c.replace-next.ensures.value, c.in-Enters.is) in
    let at = subst (λ m. StandsAt l first run.below.items run.last (move_view m (pending_view run.last.pending))) is h in
    c.come_to.ensures first _ _ at

pub returns-in-Enters-clause-found : goal.returns-in-Enters-clause-found
returns-in-Enters-clause-found c = λ first h a.
    a

pub returns-in-Reads-clause-opened : goal.returns-in-Reads-clause-opened
returns-in-Reads-clause-opened c = λ e first h.
    let l = language_of c.args.table.now in
    let run = c.args.run.now in
    let is : c.args.run.now.next ≡ D.Reads c.in-Reads.reading = cc (c.replace-next.ensures.value, c.in-Reads.is) in
    let at = subst (λ m. StandsAt l first run.below.items run.last (move_view m (pending_view run.last.pending))) is h in
    c.in_ok-read-in-Reads.ensures l first at

pub returns-in-Reads-clause-found : goal.returns-in-Reads-clause-found
returns-in-Reads-clause-found c = λ first h a.
    a

pub returns-in-Weighs-clause-opened : goal.returns-in-Weighs-clause-opened
returns-in-Weighs-clause-opened c = λ e first h.
    let l = language_of c.args.table.now in
    let run = c.args.run.now in
    let is : c.args.run.now.next ≡ D.Weighs c.in-Weighs.weighing = cc (c.replace-next.ensures.value, c.in-Weighs.is) in
    let at = subst (λ m. StandsAt l first run.below.items run.last (move_view m (pending_view run.last.pending))) is h in
    open_weighed l (rw c.weighed_reply.ensures at at)

pub returns-in-Weighs-clause-found : goal.returns-in-Weighs-clause-found
returns-in-Weighs-clause-found c = λ first h a.
    a
