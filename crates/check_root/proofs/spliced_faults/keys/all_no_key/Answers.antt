use Rattle.std.proofs.lemmas.Result.{IfOk-weaker}
use Rattle.check_root.proofs.OfSplicedFaults.Keyless.{all_keyless}
use Rattle.check_root.proofs.spliced_faults.keys.all_no_key.Goals as goal

pub returns : goal.returns
returns c = IfOk-weaker c.all_keyless.result _ _ (λ v are s root t refs spliced faults. all_keyless s root t refs c.args.spliced.now c.args.faults.now spliced faults v.items are) c.all_keyless.ensures
