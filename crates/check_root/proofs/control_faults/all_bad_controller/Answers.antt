use Rattle.std.proofs.Common.{refl}
use Rattle.std.proofs.lemmas.Result.{IfOk-weaker}
use Rattle.cddl_language.specs.Faults.{definitions}
use Rattle.check_root.proofs.OfControlFaults.Faults as Faults
use Rattle.check_root.proofs.control_faults.all_bad_controller.Goals as goal

pub returns : goal.returns
returns c =
    IfOk-weaker c.all_wrong.result _ _
    (λ v told s root worth right clear literals controllers asked.
    let laws : Faults.Laws s worth root = record {
      first = c.reached_parts.ensures.first s root clear;
      last = c.reached_parts.ensures.last s root clear;
      first_values = λ r xs x y o h. c.operand_values.ensures.first s.tree worth right root r xs x y o h;
      last_values = λ r xs x y o h. c.operand_values.ensures.last s.tree worth right root r xs x y o h;
    } in
    let t = c.args.terms.now in
    Faults.all_bad_controller s worth root t c.args.asked.now asked (λ n a b h k. (c.equal_numbers.ensures.term n n a b h k).0 refl) c.args.controllers v.items (told (definitions s) root worth literals controllers (Faults.all_there s worth root t laws c.args.asked.now asked)))
    c.all_wrong.ensures
