use Rattle.std.proofs.lemmas.Result.{IfOk-weaker}
use Rattle.check_root.proofs.OfSplicedFaults.Crowding.{all_crowded}
use Rattle.check_root.proofs.spliced_faults.crowded.all_too_many_alternatives.Goals as goal

pub returns : goal.returns
returns c = IfOk-weaker c.all_crowded.result _ _ (λ v are s root t clear asked faults. all_crowded s root (c.reached_parts.ensures.map s root clear) t c.args.asked.now c.args.faults.now asked faults v.items are) c.all_crowded.ensures
