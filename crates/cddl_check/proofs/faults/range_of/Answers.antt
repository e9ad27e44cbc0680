use Rattle.std.proofs.Common.{sym, subst}
use Rattle.cddl_language.specs.Faults.{rules}
use Rattle.check_reached.specs.Asked.{AreAsked}
use Rattle.check_reached.specs.Reached.{AreReachedWords}
use Rattle.cddl_check.proofs.faults.range_of.Goals as goal

pub returns : goal.returns
returns c s worth x root refs tokens right reading =
    let asked = subst (AreAsked (rules s) root c.args.terms.now) (sym c.deref.ensures.value) reading.asking.asked in
    let reached = subst (AreReachedWords (rules s) root c.args.terms.now) (sym c.deref-2.ensures.value) reading.rooted.reached in
    c.bad_range.ensures s root worth tokens right reading.right.clear reached reading.meant.literals asked
