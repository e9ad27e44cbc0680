use Rattle.std.proofs.Common.{◌≡◌, length, refl, ap, ◌∙◌, arith}
use Rattle.table_nodes.specs.Language.{language_of}
use Rattle.cddl_match.specs.Machine.{noted}
use Rattle.match_moves.specs.Views.{question_view}
use Rattle.cddl_match.specs.declared.stack.Waiting.{Waiting}
use Rattle.cddl_match.proofs.Running.{at_ask_over, ask_step, pushed_there, pushed_written}
use Rattle.cddl_match.proofs.stack.ask.Goals as goal

pub returns-then-run-steps-clause-finds : goal.returns-then-run-steps-clause-finds
returns-then-run-steps-clause-finds c = λ first at within r w d.
    let h = at_ask_over (language_of c.args.table.now) at r w d in
    omega (arith, h, c.if-run-steps.true)

pub returns-clause-goes : goal.returns-clause-goes
returns-clause-goes c = λ e first at within.
    let xs = c.args.run.now.waiting.items in
    let v = c.index_mut-last.result.now in
    let u : Waiting = record { asked = v.asked; pending = c.first_of.new.pending } in
    let k = c.len-count.result in
    let many : k ≡ length xs = omega (arith, c.len-count.ensures) in
    let same = pushed_there xs k c.new.result v c.push.new.self.items many c.in-Ok.ensures.items c.index_mut-last.ensures.value in
    let asked : noted u.asked ≡ question_view c.args.question = ap (λ w. noted w.asked) same ∙ c.new.ensures in
    ask_step (language_of c.args.table.now) first c.args.steps _ _ u c.requires.owed refl refl c.if-run-steps.false at (pushed_written xs k c.new.result u c.push.new.self.items many c.in-Ok.ensures.items) asked c.in-Ok-first_of.ensures.first
