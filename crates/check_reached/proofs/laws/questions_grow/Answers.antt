use Rattle.check_reached.proofs.Growing.{asked_kept}
use Rattle.check_reached.proofs.laws.questions_grow.Goals as goal

pub returns : goal.returns
returns c = λ old new grows. asked_kept old new (c.growing_keeps.ensures.tree old new grows)
