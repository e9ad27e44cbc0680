use Rattle.check_reached.proofs.Asking.{answers_kept, calls_kept, run_kept}
use Rattle.check_reached.proofs.laws.answers_grow.Goals as goal

pub returns-clause-calls : goal.returns-clause-calls
returns-clause-calls c = λ old new grows. calls_kept old new (c.growing_keeps.ensures.tree old new grows) (c.growing_keeps-2.ensures.trees old new grows)

pub returns-clause-run : goal.returns-clause-run
returns-clause-run c = λ old new grows. run_kept old new (c.growing_keeps.ensures.tree old new grows) (c.growing_keeps-2.ensures.trees old new grows) (c.growing_keeps.ensures.texts old new grows)

pub returns-clause-answers : goal.returns-clause-answers
returns-clause-answers c = λ old new grows. answers_kept old new (c.growing_keeps.ensures.tree old new grows)
