use Rattle.std.proofs.Common.{Some, length, sym, subst}
use Rattle.std.specs.Option.{unwrap_or}
use Rattle.cddl_language.specs.Faults.{HasRecursion, definitions}
use Rattle.check_recursion.specs.Order.{AreCycles, IsOrder}
use Rattle.lists.specs.Least.{IsLeast}
use Rattle.check_root.proofs.OfRootFaults.Coming.{least_recursion, none_comes}
use Rattle.check_root.proofs.root_faults.returning.recursion.Goals as goal

pub returns-in-Ranks : goal.returns-in-Ranks
returns-in-Ranks c s root refs known own of pre text are closed order =
    let ranked = subst (IsOrder (definitions s) root refs c.args.terms.now) c.in-Ranks.is order in
    none_comes s root ranked.no_cycle

pub returns-in-Cycles : goal.returns-in-Cycles
returns-in-Cycles c s root refs known own of pre text are closed order =
    let t = c.args.terms.now in
    let starts = c.args.starts.now in
    let names = c.args.names.now in
    let flags = c.deref.result.now in
    let told = subst (IsOrder (definitions s) root refs t) c.in-Cycles.is order in
    let cycles : AreCycles (definitions s) root refs flags = subst (AreCycles (definitions s) root refs) (sym c.deref.ensures.value) told in
    subst (λ v. IsLeast (HasRecursion s root) (Some v)) (sym c.unwrap_or.ensures) (subst (λ o. IsLeast (HasRecursion s root) (Some (unwrap_or o 0))) (sym c.least_start-first.ensures) (least_recursion t starts names c.args.closed.now s root refs of are.all (λ k n v e f. c.names_stand.ensures t (length t.texts) k known own names (definitions s) n v closed.table pre text are e f) (λ k r e. c.meaning_at.ensures (definitions s) root refs t c.args.closed.now k r closed e) flags cycles closed.instances.all))
