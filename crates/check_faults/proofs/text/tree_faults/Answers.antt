use Rattle.std.proofs.lemmas.Result.{IfOk-weaker}
use Rattle.check_faults.proofs.text.tree_faults.Goals as goal

pub returns : goal.returns
returns c = IfOk-weaker c.list_of.result _ _ (λ v h s worth e g. h s worth c.args.tree.now e g c.in-Ok.ensures.survey) c.list_of.ensures
