use Rattle.check_reached.proofs.Growing.{found_kept}
use Rattle.check_reached.proofs.laws.instances_grow.Goals as goal

pub returns : goal.returns
returns c = λ old new grows. found_kept old new (c.growing_keeps.ensures.tree old new grows) (c.growing_keeps.ensures.body old new grows)
