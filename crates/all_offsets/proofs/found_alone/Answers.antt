use Rattle.all_offsets.specs.Offsets.{IsThatOf}
use Rattle.all_offsets.proofs.Lists.{grown_alone}
use Rattle.all_offsets.proofs.found_alone.Goals as goal

pub returns : goal.returns
returns c = grown_alone (IsThatOf c.args.found) _ _ c.new-offsets.ensures.items c.in_ok-push_found.ensures
