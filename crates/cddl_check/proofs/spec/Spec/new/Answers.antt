use Rattle.std.proofs.Common.{sym, subst, ◌∙◌}
use Rattle.cddl_check.specs.Spec.{IsSpec}
use Rattle.cddl_check.proofs.Faulty.{same_root}
use Rattle.cddl_check.proofs.spec.Spec.new.Goals as goal

pub invariant_of-result : goal.invariant_of-result
invariant_of-result c = subst (λ n. IsSpec c.args.tree n c.args.findings) (same_root _ _ (sym c.requires.1.number ∙ sym c.in-Some.ensures)) c.requires.1

pub returns-clause-root : goal.returns-clause-root
returns-clause-root c = λ root spec. same_root _ _ (c.in-Some.ensures ∙ spec.number)
