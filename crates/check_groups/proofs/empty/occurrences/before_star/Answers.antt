use Rattle.std.proofs.Common.{arith, ◌∙◌}
use Rattle.check_groups.proofs.OfEmpty.Texts.{before-first, none-before}
use Rattle.check_groups.proofs.empty.occurrences.before_star.Goals as goal

pub returns-in-Some : goal.returns-in-Some
returns-in-Some c = (c.in-Some.ensures.byte (omega arith) (λ w o f. f)).0 ∙ before-first 42 c.args.text.now

pub returns-in-None : goal.returns-in-None
returns-in-None c = none-before 42 c.args.text.now (c.in-None.ensures.byte (omega arith) (λ w o f. f))
