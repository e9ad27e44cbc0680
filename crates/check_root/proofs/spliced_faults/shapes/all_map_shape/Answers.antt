use Rattle.std.proofs.lemmas.Result.{IfOk-weaker}
use Rattle.cddl_language.specs.Faults.{rules}
use Rattle.check_root.proofs.OfSplicedFaults.Shaping.{all_shapes}
use Rattle.check_root.proofs.spliced_faults.shapes.all_map_shape.Goals as goal

pub returns : goal.returns
returns c = IfOk-weaker c.all_shapes.result _ _ (λ v are s root t refs spliced faults back. all_shapes s root (c.map_faults_stand.ensures.leads (rules s) root) t refs c.args.spliced.now c.args.faults.now c.args.coming_back.now spliced faults back v.items are) c.all_shapes.ensures
