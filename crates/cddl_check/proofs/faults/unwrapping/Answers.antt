use Rattle.std.proofs.Common.{sym, subst}
use Rattle.cddl_language.specs.Faults.{definitions, rules}
use Rattle.check_groups.specs.Choosing.Choosing.{AreChoosable}
use Rattle.check_reached.specs.Asked.{AreAsked}
use Rattle.cddl_check.proofs.faults.unwrapping.Goals as goal

pub returns : goal.returns
returns c s worth tree root refs reading =
    let flags = subst (AreChoosable (definitions s) root c.args.terms.now) (sym c.deref.ensures.value) reading.meant.choosable in
    let asked = subst (AreAsked (rules s) root c.args.terms.now) (sym c.deref-2.ensures.value) reading.asking.asked in
    c.not_unwrappable.ensures s root reading.asking.opens (c.nothing_chosen-chooses.ensures s root refs reading.right.clear reading.meant.closed flags asked)
