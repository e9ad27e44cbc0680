use Rattle.std.proofs.Common.{refl, sym, subst}
use Rattle.check_instances.specs.Openings.Openings.{AreOpenings}
use Rattle.check_groups.specs.Choosing.Choosing.{AreChoosable}
use Rattle.check_groups.specs.Splices.Parts.{AreParts}
use Rattle.alternatives.specs.Summaries.{AreSummaries}
use Rattle.cddl_check.specs.Spec.{definitions_of}
use Rattle.cddl_table.proofs.compiling.source_of.Goals as goal

pub returns : goal.returns
returns c x worth root refs right found = record {
  closed = found.meant.closed;
  kinds_are = found.kinds;
  openings_are = subst (AreOpenings (definitions_of x) c.args.findings.now.terms refs) (sym c.deref.ensures.value) found.meant.openings;
  literals_are = found.meant.literals;
  members_are = found.meant.members;
  choosable = subst (AreChoosable (definitions_of x) root c.args.findings.now.terms) (sym c.deref-2.ensures.value) found.meant.choosable;
  parts_are = subst (AreParts (definitions_of x) root c.args.findings.now.terms) (sym c.deref-3.ensures.value) found.splices.parts;
  summaries_are = subst (λ ps. AreSummaries ps c.deref-4.result.now) (sym c.deref-3.ensures.value) (subst (AreSummaries c.args.findings.now.splices.parts.items) (sym c.deref-4.ensures.value) found.splices.summaries);
  defined = refl;
  right = right;
}
