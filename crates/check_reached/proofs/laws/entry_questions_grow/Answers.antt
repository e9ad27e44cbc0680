use Rattle.check_reached.proofs.Growing.{entries_kept}
use Rattle.check_reached.proofs.laws.entry_questions_grow.Goals as goal

pub returns : goal.returns
returns c = λ old new grows. entries_kept old new (c.growing_keeps.ensures.tree old new grows)
