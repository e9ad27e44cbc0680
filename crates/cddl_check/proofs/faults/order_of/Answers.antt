use Rattle.std.proofs.Common.{sym, subst}
use Rattle.cddl_language.specs.Faults.{definitions}
use Rattle.check_groups.specs.Choosing.Choosing.{AreChoosable}
use Rattle.check_instances.specs.Openings.Openings.{AreOpenings}
use Rattle.check_groups.specs.Empty.Empty.{AreEmpty}
use Rattle.cddl_check.proofs.faults.order_of.Goals as goal

pub returns-clause-order : goal.returns-clause-order
returns-clause-order c s worth tree root refs reading =
    let kinds = reading.named.kinds in
    let first = subst (AreOpenings (definitions s) c.args.terms.now refs) (sym c.deref.ensures.value) reading.meant.openings in
    let second = subst (AreOpenings (definitions s) c.args.terms.now refs) (sym c.deref-2.ensures.value) reading.meant.openings in
    let flags = subst (AreChoosable (definitions s) root c.args.terms.now) (sym c.deref-3.ensures.value) reading.meant.choosable in
    let empty = subst (AreEmpty (definitions s) root c.args.terms.now) (sym c.deref-4.ensures.value) (c.in_ok-empty.ensures (definitions s) root refs reading.meant.closed kinds first) in
    c.in_ok-order.ensures (definitions s) root refs reading.meant.closed kinds second flags empty
