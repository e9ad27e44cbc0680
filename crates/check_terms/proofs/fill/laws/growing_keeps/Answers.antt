use Rattle.check_terms.proofs.OfFill.Growing.{still_template, still_trees}
use Rattle.check_terms.proofs.fill.laws.growing_keeps.Goals as goal

pub returns-clause-trees : goal.returns-clause-trees
returns-clause-trees c = λ old new grows. still_trees old new (c.growing_keeps.ensures.tree old new grows)

pub returns-clause-template : goal.returns-clause-template
returns-clause-template c = λ old new grows. still_template old new (c.growing_keeps.ensures.tree old new grows)
