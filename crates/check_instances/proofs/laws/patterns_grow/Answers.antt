use Rattle.check_instances.proofs.Meaning.{patterns_kept}
use Rattle.check_instances.proofs.laws.patterns_grow.Goals as goal

pub returns-clause-patterns : goal.returns-clause-patterns
returns-clause-patterns c = λ old new grows. patterns_kept old new (c.growing_keeps.ensures.body old new grows) (c.growing_keeps-2.ensures.template old new grows)
