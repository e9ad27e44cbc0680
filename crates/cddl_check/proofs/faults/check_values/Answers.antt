use Rattle.std.proofs.Common.{None, sym, subst}
use Rattle.cddl_language.specs.Faults.{HasBadController, HasBadRange, HasNotLiteral}
use Rattle.lists.specs.Least.{IsLeast}
use Rattle.cddl_check.specs.Outcome.{IsStopped}
use Rattle.cddl_check.proofs.faults.check_values.Goals as goal

pub returns-in-Some-clause-stopped : goal.returns-in-Some-clause-stopped
returns-in-Some-clause-stopped c s worth x root refs tokens right reading opened returning =
    let least = subst (IsLeast (HasNotLiteral s worth root)) c.in-Some.is (c.literal_of.ensures s worth x root refs right reading) in
    let told = c.root_faults_are_told.ensures.literal s worth root reading.rooted.rooted reading.right.no_fault reading.rooted.no_more opened returning c.in-Some.at least in
    subst (IsStopped s worth) (sym c.refused.ensures) told

pub returns-in-Some-range_of-clause-stopped : goal.returns-in-Some-range_of-clause-stopped
returns-in-Some-range_of-clause-stopped c s worth x root refs tokens right reading opened returning =
    let literals : IsLeast (HasNotLiteral s worth root) None = subst (IsLeast (HasNotLiteral s worth root)) c.in_default.is (c.literal_of.ensures s worth x root refs right reading) in
    let least = subst (IsLeast (HasBadRange s worth root)) c.in-Some-range_of.is (c.range_of.ensures s worth x root refs tokens right reading) in
    let told = c.root_faults_are_told.ensures.range s worth root reading.rooted.rooted reading.right.no_fault reading.rooted.no_more opened returning literals c.in-Some-range_of.at least in
    subst (IsStopped s worth) (sym c.refused-in-Some-range_of.ensures) told

pub returns-in-Some-controller_of-clause-stopped : goal.returns-in-Some-controller_of-clause-stopped
returns-in-Some-controller_of-clause-stopped c s worth x root refs tokens right reading opened returning =
    let literals : IsLeast (HasNotLiteral s worth root) None = subst (IsLeast (HasNotLiteral s worth root)) c.in_default.is (c.literal_of.ensures s worth x root refs right reading) in
    let ranges : IsLeast (HasBadRange s worth root) None = subst (IsLeast (HasBadRange s worth root)) c.in_default-range_of.is (c.range_of.ensures s worth x root refs tokens right reading) in
    let least = subst (IsLeast (HasBadController s worth root)) c.in-Some-controller_of.is (c.controller_of.ensures s worth x root refs right reading) in
    let told = c.root_faults_are_told.ensures.controller s worth root reading.rooted.rooted reading.right.no_fault reading.rooted.no_more opened returning literals ranges c.in-Some-controller_of.at least in
    subst (IsStopped s worth) (sym c.refused-in-Some-controller_of.ensures) told

pub returns-clause-valued : goal.returns-clause-valued
returns-clause-valued c s worth x root refs tokens right reading = record {
  literals = subst (IsLeast (HasNotLiteral s worth root)) c.in_default.is (c.literal_of.ensures s worth x root refs right reading);
  ranges = subst (IsLeast (HasBadRange s worth root)) c.in_default-range_of.is (c.range_of.ensures s worth x root refs tokens right reading);
  controllers = subst (IsLeast (HasBadController s worth root)) c.in_default-controller_of.is (c.controller_of.ensures s worth x root refs right reading);
}
