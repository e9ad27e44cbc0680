use Rattle.std.proofs.Common.{sym, subst}
use Rattle.cddl_language.specs.Faults.{HasNotUnwrappable}
use Rattle.lists.specs.Least.{IsLeast}
use Rattle.check_root.proofs.OfReachedFaults.Tildes.{both_sorts}
use Rattle.check_root.proofs.reached_faults.unwrapping.not_unwrappable.Goals as goal

pub returns : goal.returns
returns c = λ s root h k. subst (IsLeast (HasNotUnwrappable s root)) (sym c.lesser.ensures) (both_sorts s root c.args.opens c.args.chooses h k)
