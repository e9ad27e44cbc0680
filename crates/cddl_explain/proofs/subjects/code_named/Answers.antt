use Rattle.std.proofs.Common.{arith, below_more}
use Rattle.cddl_explain.proofs.Naming.{no_code}
use Rattle.cddl_explain.proofs.subjects.code_named.Goals as goal

pub loop-code-preserved : goal.loop-code-preserved
loop-code-preserved c = below_more _ _ c.loop-code.invariant (λ e. c.is_code.ensures.no c.if-is_code.false e)

pub returns-clause-none : goal.returns-clause-none
returns-clause-none c = no_code _ (λ k lt. c.loop-code.invariant k (omega (arith, lt, c.loop-code-test.false)))
