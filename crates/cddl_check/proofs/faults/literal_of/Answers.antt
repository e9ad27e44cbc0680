use Rattle.std.proofs.Common.{sym, subst}
use Rattle.cddl_language.specs.Faults.{rules}
use Rattle.check_reached.specs.Asked.{AreAsked}
use Rattle.cddl_check.proofs.faults.literal_of.Goals as goal

pub returns : goal.returns
returns c s worth tree root refs right reading =
    let asked = subst (AreAsked (rules s) root c.args.terms.now) (sym c.deref.ensures.value) reading.asking.asked in
    c.not_literal.ensures s root worth right reading.right.clear reading.meant.literals asked
