use Rattle.check_root.proofs.OfReachedFaults.Tildes.{all_sorts}
use Rattle.check_root.proofs.reached_faults.unwrapping.all_not_unwrappable.Goals as goal

pub returns : goal.returns
returns c s root opens chooses = all_sorts s root c.args.opens.items c.args.chooses.now c.in_ok-both.both.items opens chooses c.in_ok-both.ensures.rising c.in_ok-both.ensures.each
