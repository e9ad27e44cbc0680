use Rattle.std.proofs.Common.{◌≡◌, ◌<◌, refl, subst, arith}
use Rattle.cddl_meaning.specs.Forms.{bits_asked}
use Rattle.cddl_meaning.specs.Moves as M
use Rattle.cddl_match.specs.Machine.{WaitsAt, found_in}
use Rattle.match_moves.specs.Views.{reply_view, weighing_move}
use Rattle.match_tests.specs.Views.{subject_view}
use Rattle.table_nodes.specs.Nodes.{test_view}
use Rattle.cddl_match.proofs.Running.{at_bits_over, at_unweighed, found_from, weigh_step}
use Rattle.cddl_match.proofs.stack.weigh.Goals as goal

pub returns-in_default-clause-finds : goal.returns-in_default-clause-finds
returns-in_default-clause-finds c = λ l first at within r w d.
    let more = at_bits_over l at r w d in
    omega (arith, more, within, c.in_default.ensures, c.saturating_sub-free.ensures)

pub returns-then-bits-eq0-clause-goes : goal.returns-then-bits-eq0-clause-goes
returns-then-bits-eq0-clause-goes c = λ e l first at within.
    let n = bits_asked (test_view c.args.weighing.test.now) (subject_view c.args.weighing.subject) in
    let none : n ≡ 0 = omega (arith, c.in-Some.ensures, c.if-bits-eq0.true) in
    let now = subst (λ m. WaitsAt l first c.args.run.now.taken c.args.run.now.waiting.items m) c.weighed_reply-reply.ensures at in
    c.reply_to_last.ensures.goes e l c.args.steps first (at_unweighed l n none now) within

pub returns-then-bits-eq0-clause-finds : goal.returns-then-bits-eq0-clause-finds
returns-then-bits-eq0-clause-finds c = λ l.
    let n = bits_asked (test_view c.args.weighing.test.now) (subject_view c.args.weighing.subject) in
    let none : n ≡ 0 = omega (arith, c.in-Some.ensures, c.if-bits-eq0.true) in
    found_from l c.args.steps c.args.run.now c.args.run.now (M.Answered (reply_view c.weighed_reply-reply.result)) (weighing_move c.args.weighing) (found_in c.reply_to_last.result c.reply_to_last.new.run.next) refl (λ first at. at_unweighed l n none (subst (λ m. WaitsAt l first c.args.run.now.taken c.args.run.now.waiting.items m) c.weighed_reply-reply.ensures at)) (c.reply_to_last.ensures.finds l c.args.steps)

pub returns-clause-goes : goal.returns-clause-goes
returns-clause-goes c = λ e l first at within.
    let n = bits_asked (test_view c.args.weighing.test.now) (subject_view c.args.weighing.subject) in
    let some : 0 < n = omega (arith, c.in-Some.ensures, c.if-bits-eq0.false) in
    let now = subst (λ m. WaitsAt l first c.args.run.now.taken c.args.run.now.waiting.items m) c.weighed_reply-reply.ensures at in
    weigh_step l first c.args.steps _ _ n c.weighed_reply-reply.result some (omega (arith, c.in-Some.ensures)) refl (omega (arith, within, some, c.in-Some.ensures, c.saturating_sub-free.ensures)) now refl refl
