use Rattle.std.proofs.Common.{Some, subst}
use Rattle.std.proofs.lemmas.Result.{IfOk-weaker}
use Rattle.cddl_language.specs.Substitution.{body_alternatives}
use Rattle.check_instances.specs.Closed.Closed.{AreAlternatives}
use Rattle.check_instances.proofs.OfClosed.Groups.{alternatives_kept, with_none}
use Rattle.check_instances.proofs.closed.joining.with_body.Goals as goal

pub returns-in-Some-clause-stands : goal.returns-in-Some-clause-stands
returns-in-Some-clause-stands c =
    let old = c.args.terms.now in
    let now = c.body_group.new.terms in
    let keeps = c.growing_keeps.ensures.tree old now c.in_ok-further.ensures.grows in
    IfOk-weaker c.joined.result _ _ (λ n f x es h k. f es (body_alternatives x) (alternatives_kept old now keeps es (Some c.in-Some.group) (subst (AreAlternatives old es) c.in-Some.is k)) (c.in_ok-further.ensures.stands x h)) c.joined.ensures.stands

pub returns-in-None-clause-stands : goal.returns-in-None-clause-stands
returns-in-None-clause-stands c = λ x es h k. with_none c.body_group.new.terms c.in_ok-further.further c.args.terms.now es (body_alternatives x) (subst (AreAlternatives c.args.terms.now es) c.in-None.is k) (c.in_ok-further.ensures.stands x h)
