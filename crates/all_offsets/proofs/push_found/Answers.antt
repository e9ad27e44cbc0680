use Rattle.std.proofs.Common.{refl}
use Rattle.all_offsets.proofs.Lists.{gains_nothing, gains_pushed}
use Rattle.all_offsets.proofs.push_found.Goals as goal

pub returns-in_ok-push-in-Some : goal.returns-in_ok-push-in-Some
returns-in_ok-push-in-Some c = rw c.in-Some.is (gains_pushed _ _ _ c.in_ok-push-in-Some.ensures.items)

pub returns-in-None : goal.returns-in-None
returns-in-None c = rw c.in-None.is (gains_nothing _ _ refl)
