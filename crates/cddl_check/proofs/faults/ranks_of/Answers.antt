use Rattle.std.proofs.Common.{None, sym, subst}
use Rattle.cddl_language.specs.Faults.{HasNotUnwrappable, HasRecursion, definitions}
use Rattle.check_recursion.specs.Order.{IsOrder}
use Rattle.lists.specs.Least.{IsLeast}
use Rattle.cddl_check.specs.Outcome.{IsStopped}
use Rattle.cddl_check.proofs.Handing.{handed}
use Rattle.cddl_check.proofs.faults.ranks_of.Goals as goal

pub returns-in-Some-clause-stopped : goal.returns-in-Some-clause-stopped
returns-in-Some-clause-stopped c s worth x root refs tokens right reading =
    let least = subst (IsLeast (HasNotUnwrappable s root)) c.in-Some.is (c.unwrapping.ensures s worth x root refs reading) in
    let told = c.root_faults_are_told.ensures.unwrapping s worth root reading.rooted.rooted reading.right.no_fault reading.rooted.no_more c.in-Some.at least in
    subst (IsStopped s worth) (sym c.refused.ensures) told

pub returns-in_err-ranks-clause-stopped : goal.returns-in_err-ranks-clause-stopped
returns-in_err-ranks-clause-stopped c = handed _ _ c.in_err-ranks.field-0.0 c.from_residual-in_err-ranks.ensures.1 (λ s worth x root refs tokens right reading.
    let opened : IsLeast (HasNotUnwrappable s root) None = subst (IsLeast (HasNotUnwrappable s root)) c.in_default.is (c.unwrapping.ensures s worth x root refs reading) in
    let told = c.in_err-ranks.ensures.told s worth x root refs reading (c.in_ok-order.ensures.order s worth x root refs reading) in
    subst (IsStopped s worth) (sym told.2) (c.root_faults_are_told.ensures.recursion s worth root reading.rooted.rooted reading.right.no_fault reading.rooted.no_more opened told.0 told.1))

pub returns-in_err-check_values-clause-stopped : goal.returns-in_err-check_values-clause-stopped
returns-in_err-check_values-clause-stopped c = handed _ _ c.in_err-check_values.field-0.0 c.from_residual-in_err-check_values.ensures.1 (λ s worth x root refs tokens right reading.
    let opened : IsLeast (HasNotUnwrappable s root) None = subst (IsLeast (HasNotUnwrappable s root)) c.in_default.is (c.unwrapping.ensures s worth x root refs reading) in
    let order = c.in_ok-order.ensures.order s worth x root refs reading in
    let returning : IsLeast (HasRecursion s root) None = c.in_ok-ranks.ensures.clear s worth x root refs reading order in
    c.in_err-check_values.ensures.stopped s worth x root refs tokens right reading opened returning)

pub returns-in_err-splice_maps-clause-stopped : goal.returns-in_err-splice_maps-clause-stopped
returns-in_err-splice_maps-clause-stopped c = handed _ _ c.in_err-splice_maps.field-0.0 c.from_residual-in_err-splice_maps.ensures.1 (λ s worth x root refs tokens right reading.
    let opened : IsLeast (HasNotUnwrappable s root) None = subst (IsLeast (HasNotUnwrappable s root)) c.in_default.is (c.unwrapping.ensures s worth x root refs reading) in
    let order = c.in_ok-order.ensures.order s worth x root refs reading in
    let returning : IsLeast (HasRecursion s root) None = c.in_ok-ranks.ensures.clear s worth x root refs reading order in
    let valued = c.in_ok-check_values.ensures.valued s worth x root refs tokens right reading in
    c.in_err-splice_maps.ensures.stopped s worth x root refs reading opened returning valued)

pub returns-clause-accepted : goal.returns-clause-accepted
returns-clause-accepted c s worth x root refs tokens right reading =
    let opened : IsLeast (HasNotUnwrappable s root) None = subst (IsLeast (HasNotUnwrappable s root)) c.in_default.is (c.unwrapping.ensures s worth x root refs reading) in
    let order = c.in_ok-order.ensures.order s worth x root refs reading in
    let returning : IsLeast (HasRecursion s root) None = c.in_ok-ranks.ensures.clear s worth x root refs reading order in
    let valued = c.in_ok-check_values.ensures.valued s worth x root refs tokens right reading in
    let flat = c.in_ok-splice_maps.ensures.flat s worth x root refs reading in
    c.root_faults_are_told.ensures.accepted s worth root reading.rooted.rooted reading.right.no_fault reading.rooted.no_more opened returning valued.literals valued.ranges valued.controllers flat.keyed flat.shaped flat.few

pub returns-clause-ranked : goal.returns-clause-ranked
returns-clause-ranked c s worth x root refs tokens right reading = subst (IsOrder (definitions s) root refs c.args.terms.now) c.in_ok-ranks.ensures.ranked (c.in_ok-order.ensures.order s worth x root refs reading)
