use Rattle.std.proofs.Common.{arith, ◌∙◌}
use Rattle.check_terms.proofs.Cutting.{after-first, none-after}
use Rattle.check_terms.proofs.names.control_name.Goals as goal

pub returns-in-Some : goal.returns-in-Some
returns-in-Some c = (c.in-Some.ensures.byte (omega arith) (λ w o f. f)).1 ∙ after-first 46 c.args.text.now

pub returns-in-None : goal.returns-in-None
returns-in-None c = none-after 46 c.args.text.now (c.in-None.ensures.byte (omega arith) (λ w o f. f))
