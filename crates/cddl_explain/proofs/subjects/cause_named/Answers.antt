use Rattle.std.proofs.Common.{arith, below_more}
use Rattle.cddl_explain.proofs.Naming.{no_cause}
use Rattle.cddl_explain.proofs.subjects.cause_named.Goals as goal

pub loop-cause-preserved : goal.loop-cause-preserved
loop-cause-preserved c = below_more _ _ c.loop-cause.invariant (λ e. c.is_cause.ensures.no c.if-is_cause.false e)

pub returns-clause-none : goal.returns-clause-none
returns-clause-none c = no_cause _ (λ k lt. c.loop-cause.invariant k (omega (arith, lt, c.loop-cause-test.false)))
