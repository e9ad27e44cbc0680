use Rattle.std.proofs.Common.{sym, subst}
use Rattle.std.proofs.lemmas.Result.{IfOk-weaker}
use Rattle.all_offsets.specs.Offsets.{AreOffsets}
use Rattle.cddl_language.specs.Faults.{definitions, rules}
use Rattle.check_groups.specs.Choosing.Choosing.{AreChoosable}
use Rattle.check_reached.specs.Asked.{AreAsked}
use Rattle.check_reached.specs.Reached.{AreReachedWords}
use Rattle.check_root.specs.ReachedFaults.Choices.{ChoosesFromNone}
use Rattle.cddl_check.proofs.all_faults.unwrappings.Goals as goal

pub returns : goal.returns
returns c =
    IfOk-weaker c.all_not_unwrappable.result _ _
    (λ v h s worth x root refs e reading.
    let reached = subst (AreReachedWords (rules s) root c.args.terms.now) (sym c.deref.ensures.value) reading.rooted.reached in
    let opens = c.in_ok-opens.ensures c.args.terms.now x s root e reading.survey reached in
    let flags = subst (AreChoosable (definitions s) root c.args.terms.now) (sym c.deref-2.ensures.value) reading.meant.choosable in
    let asked = subst (AreAsked (rules s) root c.args.terms.now) (sym c.deref-3.ensures.value) reading.asking.asked in
    let chooses = c.in_ok-chooses.ensures s root refs reading.right.clear reading.meant.closed flags asked in
    h s root opens (subst (AreOffsets (ChoosesFromNone s root)) (sym c.deref-4.ensures.value) chooses))
    c.all_not_unwrappable.ensures
