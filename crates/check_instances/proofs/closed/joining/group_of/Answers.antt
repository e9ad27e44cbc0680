use Rattle.std.proofs.Common.{◌≤◌, drop, drop_of_length-le, length, arith}
use Rattle.std.specs.Prelude.{flat_map}
use Rattle.cddl_language.specs.Substitution.{body_alternatives}
use Rattle.check_instances.specs.Closed.Closed.{AreAlternatives}
use Rattle.check_instances.proofs.OfClosed.Alike.{all_done}
use Rattle.check_instances.proofs.OfClosed.Groups.{BodyRow, next_grouped, none_grouped}
use Rattle.check_instances.proofs.closed.joining.group_of.Goals as goal

pub loop-body-init : goal.loop-body-init
loop-body-init c = none_grouped c.args.terms.now c.args.bodies.now (c.growing_keeps.ensures.same c.args.terms.now)

pub loop-body-preserved : goal.loop-body-preserved
loop-body-preserved c =
    let old = c.args.terms.now in
    let now = c.loop-body.terms in
    let new = c.with_body.new.terms in
    let keeps = c.growing_keeps.ensures in
    let so = c.loop-body.invariant in
    let one = c.in_ok-with_body.ensures in
    next_grouped old now new (keeps.body old now so.grows) (keeps.further old now new so.grows one.grows) one.texts c.args.bodies.now c.loop-body.body-index c.loop-body.group _ c.in_ok-with_body.field-0 c.loop-body-test.true one.stands so

pub returns-clause-stands : goal.returns-clause-stands
returns-clause-stands c = λ xs h.
    let bodies = c.args.bodies.now in
    let i = c.loop-body.body-index in
    let short : length bodies ≤ i = omega (arith, c.loop-body-test.false) in
    all_done (BodyRow c.args.terms.now) (λ done. AreAlternatives c.loop-body.terms (flat_map body_alternatives done) c.loop-body.group) xs (drop i bodies) (drop_of_length-le bodies short) (c.loop-body.invariant.stands xs h)
