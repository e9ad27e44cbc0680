use Rattle.std.proofs.Common.{None}
use Rattle.std.proofs.lemmas.Result.{IfOk-weaker}
use Rattle.check_terms.specs.Table.{no_text}
use Rattle.check_instances.proofs.closed.store.add.Goals as goal

pub returns-clause-stands : goal.returns-clause-stands
returns-clause-stands c = IfOk-weaker c.add.result _ _ (λ n h a b p q. h None a b no_text p q) c.add.ensures.stands
