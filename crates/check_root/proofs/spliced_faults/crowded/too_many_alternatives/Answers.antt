use Rattle.std.proofs.Common.{sym, subst}
use Rattle.cddl_language.specs.Faults.{rules}
use Rattle.cddl_language.specs.MapFaults.{HasTooManyAlternatives}
use Rattle.lists.specs.Least.{IsLeast}
use Rattle.check_root.proofs.OfSplicedFaults.Crowding.{least_crowded}
use Rattle.check_root.proofs.spliced_faults.crowded.too_many_alternatives.Goals as goal

pub returns : goal.returns
returns c = λ s root t clear asked faults. subst (IsLeast (HasTooManyAlternatives (rules s) root)) (sym c.least_crowded.ensures) (least_crowded s root (c.reached_parts.ensures.map s root clear) t c.args.asked.now c.args.faults.now asked faults)
