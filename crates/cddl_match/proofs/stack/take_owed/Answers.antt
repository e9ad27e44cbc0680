use Rattle.std.proofs.Common.{refl, arith}
use Rattle.cddl_match.proofs.Running.{at_most, owed_step}
use Rattle.cddl_match.proofs.stack.take_owed.Goals as goal

pub returns-then-run-steps-clause-finds : goal.returns-then-run-steps-clause-finds
returns-then-run-steps-clause-finds c = λ l first run within r w d.
    let h = at_most l run.at r w d in
    omega (arith, h, c.requires.owed, c.if-run-steps.true)

pub returns-clause-goes : goal.returns-clause-goes
returns-clause-goes c = λ e l first run within. owed_step l first c.args.steps _ _ c.requires.owed (omega arith) refl c.if-run-steps.false run refl refl
