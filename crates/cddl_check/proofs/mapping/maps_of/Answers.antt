use Rattle.std.proofs.Common.{sym, subst, arith}
use Rattle.cddl_language.specs.Faults.{definitions, rules}
use Rattle.alternatives.specs.Summaries.{AreSummaries}
use Rattle.check_groups.specs.Splices.Parts.{AreParts}
use Rattle.check_instances.specs.Openings.Openings.{AreOpenings}
use Rattle.check_instances.specs.Openings.Endings.{AreEndings}
use Rattle.check_reached.specs.Asked.{AreEntriesAsked}
use Rattle.check_maps.specs.Spliced.Spliced.{AreSpliced}
use Rattle.check_maps.specs.MapCycles.Coming.{AreComingBack}
use Rattle.cddl_check.proofs.Lengths.{definitions_length}
use Rattle.cddl_check.proofs.mapping.maps_of.Goals as goal

pub returns-clause-found : goal.returns-clause-found
returns-clause-found c s worth tree root refs reading =
    let t = c.args.terms.now in
    let ds = definitions s in
    let closed = reading.meant.closed in
    let kinds = reading.named.kinds in
    let clear = reading.right.clear in
    let parts = c.args.reading.now.splices.parts.items in
    let known = definitions_length _ _ _ reading.named.known in
    let own = definitions_length _ _ _ reading.named.defined in
    let endings = c.in_ok-endings.ensures ds root refs closed (omega (arith, known, own)) in
    let spliced = c.in_ok-spliced.ensures s root refs clear closed kinds (subst (AreOpenings ds t refs) (sym c.deref.ensures.value) reading.meant.openings) (subst (AreEndings ds t refs) (sym c.deref-2.ensures.value) endings) (subst (AreEntriesAsked (rules s) root t) (sym c.deref-3.ensures.value) reading.asking.entries) in
    let spliced_there = subst (AreSpliced (rules s) root t refs) (sym c.deref-6.ensures.value) spliced in
    let coming = subst (λ xs. AreComingBack ds root t refs xs c.in_ok-returning.returning.items) c.deref-6.ensures.value (c.in_ok-returning.ensures s root refs clear closed kinds (subst (AreOpenings ds t refs) (sym c.deref-4.ensures.value) reading.meant.openings) (subst (AreEndings ds t refs) (sym c.deref-5.ensures.value) endings) spliced_there) in
    let parts_there = subst (AreParts ds root t) (sym c.deref-7.ensures.value) reading.splices.parts in
    let summaries_there = subst (λ ps. AreSummaries ps c.deref-8.result.now) (sym c.deref-7.ensures.value) (subst (AreSummaries parts) (sym c.deref-8.ensures.value) reading.splices.summaries) in
    let wrong = c.in_ok-faults.ensures ds root refs t (c.texts_have_entries.ensures (rules s)) closed.instances closed.few parts_there summaries_there in
    record { spliced = spliced; returning = coming; faults = wrong }
