use Rattle.std.proofs.Common.{sym, subst}
use Rattle.std.proofs.lemmas.Result.{IfOk-weaker}
use Rattle.cddl_language.specs.Faults.{rules}
use Rattle.check_reached.specs.Asked.{AreAsked}
use Rattle.cddl_check.proofs.all_faults.controllers_of.Goals as goal

pub returns : goal.returns
returns c =
    IfOk-weaker c.all_bad_controller.result _ _
    (λ v h s worth tree root refs right reading. h s root worth right reading.right.clear reading.meant.literals reading.meant.controllers (subst (AreAsked (rules s) root c.args.terms.now) (sym c.deref.ensures.value) reading.asking.asked))
    c.all_bad_controller.ensures
