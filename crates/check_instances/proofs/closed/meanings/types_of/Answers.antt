use Rattle.std.proofs.Common.{◌≤◌, List, ℕ, drop, drop_of_length-le, length, sym, subst, arith}
use Rattle.cddl_language.specs.Substitution.{types_in}
use Rattle.cddl_meaning.specs.Alike.{AlikeAll}
use Rattle.check_instances.specs.Closed.Closed.{TermRow}
use Rattle.check_instances.proofs.OfClosed.Alike.{all_done}
use Rattle.check_instances.proofs.OfClosed.Groups.{AreTyped, BodyRow, next_typed, none_typed}
use Rattle.check_instances.proofs.closed.meanings.types_of.Goals as goal

pub loop-body-init : goal.loop-body-init
loop-body-init c = subst (λ (ns : List ℕ). AreTyped c.args.terms.now c.args.bodies.now c.args.bodies.now ns) (sym c.new-types.ensures.items) (none_typed c.args.terms.now c.args.bodies.now)

pub loop-body-preserved : goal.loop-body-preserved
loop-body-preserved c = next_typed c.args.terms.now c.args.bodies.now c.loop-body.body-index _ c.loop-body.types.items c.add_choices.new.types.items c.loop-body-test.true c.in_ok-add_choices.ensures c.loop-body.invariant

pub returns : goal.returns
returns c = λ xs h.
    let bodies = c.args.bodies.now in
    let i = c.loop-body.body-index in
    let short : length bodies ≤ i = omega (arith, c.loop-body-test.false) in
    all_done (BodyRow c.args.terms.now) (λ done. AlikeAll (TermRow c.args.terms.now) (types_in done) c.loop-body.types.items) xs (drop i bodies) (drop_of_length-le bodies short) (c.loop-body.invariant xs h)
