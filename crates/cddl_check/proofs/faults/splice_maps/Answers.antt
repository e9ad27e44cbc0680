use Rattle.std.proofs.Common.{None, sym, subst}
use Rattle.cddl_language.specs.Faults.{rules}
use Rattle.cddl_language.specs.MapFaults.{HasMapShape, HasNoKey, HasTooManyAlternatives}
use Rattle.lists.specs.Least.{IsLeast}
use Rattle.cddl_check.specs.Outcome.{IsStopped}
use Rattle.cddl_check.proofs.faults.splice_maps.Goals as goal

pub returns-in-Some-clause-stopped : goal.returns-in-Some-clause-stopped
returns-in-Some-clause-stopped c s worth tree root refs reading opened returning valued =
    let maps = c.in_ok-maps.ensures.found s worth tree root refs reading in
    let least = subst (IsLeast (HasNoKey (rules s) root)) c.in-Some.is maps.no_key in
    let told = c.root_faults_are_told.ensures.key s worth root reading.rooted.rooted reading.right.no_fault reading.rooted.no_more opened returning valued.literals valued.ranges valued.controllers c.in-Some.at least in
    subst (IsStopped s worth) (sym c.refused.ensures) told

pub returns-in-Some-shape-clause-stopped : goal.returns-in-Some-shape-clause-stopped
returns-in-Some-shape-clause-stopped c s worth tree root refs reading opened returning valued =
    let maps = c.in_ok-maps.ensures.found s worth tree root refs reading in
    let keyed : IsLeast (HasNoKey (rules s) root) None = subst (IsLeast (HasNoKey (rules s) root)) c.in_default.is maps.no_key in
    let least = subst (IsLeast (HasMapShape (rules s) root)) c.in-Some-shape.is maps.shape in
    let told = c.root_faults_are_told.ensures.shape s worth root reading.rooted.rooted reading.right.no_fault reading.rooted.no_more opened returning valued.literals valued.ranges valued.controllers keyed c.in-Some-shape.at least in
    subst (IsStopped s worth) (sym c.refused-in-Some-shape.ensures) told

pub returns-in-Some-too_many-clause-stopped : goal.returns-in-Some-too_many-clause-stopped
returns-in-Some-too_many-clause-stopped c s worth tree root refs reading opened returning valued =
    let maps = c.in_ok-maps.ensures.found s worth tree root refs reading in
    let keyed : IsLeast (HasNoKey (rules s) root) None = subst (IsLeast (HasNoKey (rules s) root)) c.in_default.is maps.no_key in
    let shaped : IsLeast (HasMapShape (rules s) root) None = subst (IsLeast (HasMapShape (rules s) root)) c.in_default-shape.is maps.shape in
    let least = subst (IsLeast (HasTooManyAlternatives (rules s) root)) c.in-Some-too_many.is maps.too_many in
    let told = c.root_faults_are_told.ensures.alternatives s worth root reading.rooted.rooted reading.right.no_fault reading.rooted.no_more opened returning valued.literals valued.ranges valued.controllers keyed shaped c.in-Some-too_many.at least in
    subst (IsStopped s worth) (sym c.refused-in-Some-too_many.ensures) told

pub returns-clause-flat : goal.returns-clause-flat
returns-clause-flat c s worth tree root refs reading =
    let maps = c.in_ok-maps.ensures.found s worth tree root refs reading in
    record {
      keyed = subst (IsLeast (HasNoKey (rules s) root)) c.in_default.is maps.no_key;
      shaped = subst (IsLeast (HasMapShape (rules s) root)) c.in_default-shape.is maps.shape;
      few = subst (IsLeast (HasTooManyAlternatives (rules s) root)) c.in_default-too_many.is maps.too_many;
    }
