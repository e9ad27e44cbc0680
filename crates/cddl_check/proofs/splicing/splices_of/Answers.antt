use Rattle.std.proofs.Common.{sym, subst}
use Rattle.cddl_language.specs.Faults.{definitions}
use Rattle.check_instances.specs.Openings.Openings.{AreOpenings}
use Rattle.alternatives.specs.Summaries.{AreSummaries}
use Rattle.cddl_check.proofs.splicing.splices_of.Goals as goal

pub returns-clause-found : goal.returns-clause-found
returns-clause-found c s worth root refs kinds meant = record {
  parts = c.in_ok-parts.ensures (definitions s) root refs meant.closed kinds (subst (AreOpenings (definitions s) c.args.terms.now refs) (sym c.deref.ensures.value) meant.openings);
  summaries = subst (λ ps. AreSummaries ps c.in_ok-summaries.summaries.items) c.deref-2.ensures.value c.in_ok-summaries.ensures;
}
