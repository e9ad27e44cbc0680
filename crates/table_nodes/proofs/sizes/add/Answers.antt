use Rattle.std.proofs.Common.{subst}
use Rattle.std.proofs.lemmas.Result.{IfOk-weaker}
use Rattle.table_nodes.specs.Sizes.{BeginBy}
use Rattle.table_nodes.proofs.Joining.{begin_front, begin_last}
use Rattle.table_nodes.proofs.sizes.add.Goals as goal

pub add_behind-requires-clause-begins : goal.add_behind-requires-clause-begins
add_behind-requires-clause-begins c = begin_last c.args.range.least c.pop.new.self.items c.in-Some.before (subst (BeginBy c.args.range.least) c.in-Some.ensures.items c.requires.begins)

pub returns-in-Some-clause-begins : goal.returns-in-Some-clause-begins
returns-in-Some-clause-begins c = IfOk-weaker c.add_behind.result _ _ (λ x f n l h. f n l (begin_front n c.pop.new.self.items c.in-Some.before (subst (BeginBy n) c.in-Some.ensures.items h))) c.add_behind.ensures.begins
