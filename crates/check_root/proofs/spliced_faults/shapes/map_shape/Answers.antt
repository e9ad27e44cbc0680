use Rattle.std.proofs.Common.{sym, subst}
use Rattle.cddl_language.specs.Faults.{rules}
use Rattle.cddl_language.specs.MapFaults.{HasMapShape}
use Rattle.lists.specs.Least.{IsLeast}
use Rattle.check_root.proofs.OfSplicedFaults.Shaping.{least_shape}
use Rattle.check_root.proofs.spliced_faults.shapes.map_shape.Goals as goal

pub returns : goal.returns
returns c = λ s root t refs spliced faults back. subst (IsLeast (HasMapShape (rules s) root)) (sym c.least_shape.ensures) (least_shape s root (c.map_faults_stand.ensures.leads (rules s) root) t refs c.args.spliced.now c.args.faults.now c.args.coming_back.now spliced faults back)
