use Rattle.std.proofs.lemmas.Result.{IfOk-weaker}
use Rattle.check_instances.proofs.OfOutlines.Making.{chosen}
use Rattle.check_instances.proofs.outlines.add_choice.Goals as goal

pub returns-clause-stands : goal.returns-clause-stands
returns-clause-stands c = IfOk-weaker c.add.result _ _ (λ n h x ps f s. chosen c.args.terms.now c.add.new.self x ps c.args.first c.args.second n h f s) c.add.ensures.stands
