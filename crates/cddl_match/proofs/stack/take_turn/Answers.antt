use Rattle.std.proofs.Common.{inr, refl, arith}
use Rattle.table_nodes.specs.Language.{language_of}
use Rattle.cddl_match.specs.Machine.{found_in, last_of, pending_in}
use Rattle.match_moves.specs.Views.{question_view, reply_view}
use Rattle.match_moves.specs.declared.questions.Move.TheVariants as C
use Rattle.cddl_meaning.specs.Moves as M
use Rattle.cddl_match.proofs.Needs.{or_so, or_true, room_needed}
use Rattle.cddl_match.proofs.Running.{finds_from, next_at, step_of}
use Rattle.cddl_match.proofs.stack.take_turn.Goals as goal

pub returns-in-Asks-clause-memory : goal.returns-in-Asks-clause-memory
returns-in-Asks-clause-memory c = λ e.
    let r = c.args.run.now in
    or_so (c.ask.ensures.memory e) (λ a. room_needed (language_of c.args.table.now) r (C.Asks c.in-Asks.question) c.in-Asks.is (or_true (last_of (pending_in r.waiting.items)) (question_view c.in-Asks.question) (rw c.again-question.ensures at a)))

pub returns-in-Answered-clause-goes : goal.returns-in-Answered-clause-goes
returns-in-Answered-clause-goes c = λ e first run within.
    let l = language_of c.args.table.now in
    let at = rw (← c.again-reply.ensures) at (next_at l first c.args.run.now (C.Answered c.in-Answered.reply) (omega (arith, c.if-run-gt0.false)) c.in-Answered.is run) in
    step_of l first c.args.steps _ _ _ refl refl (c.reply_to_last.ensures.goes e l c.args.steps first at within)

pub returns-in-Answered-clause-finds : goal.returns-in-Answered-clause-finds
returns-in-Answered-clause-finds c =
    let l = language_of c.args.table.now in
    finds_from l c.args.steps c.args.run.now c.args.run.now (M.Answered (reply_view c.again-reply.result)) (found_in c.reply_to_last.result c.reply_to_last.new.run.next) refl (λ first run. rw (← c.again-reply.ensures) at (next_at l first c.args.run.now (C.Answered c.in-Answered.reply) (omega (arith, c.if-run-gt0.false)) c.in-Answered.is run)) (c.reply_to_last.ensures.finds l c.args.steps)

pub returns-in-Reads-clause-memory : goal.returns-in-Reads-clause-memory
returns-in-Reads-clause-memory c = λ e. inr (room_needed (language_of c.args.table.now) c.args.run.now (C.Reads c.in-Reads.reading) c.in-Reads.is refl)
