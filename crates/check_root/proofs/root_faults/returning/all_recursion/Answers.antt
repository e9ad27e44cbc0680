use Rattle.std.proofs.Common.{length, sym, subst}
use Rattle.std.proofs.lemmas.Result.{IfOk-weaker}
use Rattle.cddl_language.specs.Faults.{HasRecursion, definitions}
use Rattle.check_recursion.specs.Order.{AreCycles, IsOrder}
use Rattle.all_offsets.specs.Offsets.{AreOffsets}
use Rattle.all_offsets.proofs.Lemmas.{none_anywhere}
use Rattle.check_root.proofs.OfRootFaults.Coming.{all_recursion, none_comes}
use Rattle.check_root.proofs.root_faults.returning.all_recursion.Goals as goal

pub returns-in-Ranks : goal.returns-in-Ranks
returns-in-Ranks c s root refs known own of pre text are closed order =
    let ranked = subst (IsOrder (definitions s) root refs c.args.terms.now) c.in-Ranks.is order in
    none_anywhere (HasRecursion s root) _ c.new.ensures.items (none_comes s root ranked.no_cycle)

pub returns-in_ok-all_starts-in-Cycles : goal.returns-in_ok-all_starts-in-Cycles
returns-in_ok-all_starts-in-Cycles c =
    IfOk-weaker c.or_first_byte.result _ _
    (λ v is s root refs known own of pre text are closed order.
    let t = c.args.terms.now in
    let starts = c.args.starts.now in
    let names = c.args.names.now in
    let flags = c.deref.result.now in
    let told = subst (IsOrder (definitions s) root refs t) c.in-Cycles.is order in
    let cycles : AreCycles (definitions s) root refs flags = subst (AreCycles (definitions s) root refs) (sym c.deref.ensures.value) told in
    subst (AreOffsets (HasRecursion s root)) (sym is) (all_recursion t starts names c.args.closed.now s root refs of are.all (λ k n v e f. c.names_stand.ensures t (length t.texts) k known own names (definitions s) n v closed.table pre text are e f) (λ k r e. c.meaning_at.ensures (definitions s) root refs t c.args.closed.now k r closed e) flags cycles closed.instances.all _ c.in_ok-all_starts-in-Cycles.ensures))
    c.or_first_byte.ensures
