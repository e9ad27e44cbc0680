use Rattle.std.proofs.Common.{refl}
use Rattle.table_nodes.specs.Language.{language_of}
use Rattle.cddl_match.proofs.Ways.{itself, further}
use Rattle.cddl_match.proofs.behind.group_behind.Goals as goal

pub loop-asked-init : goal.loop-asked-init
loop-asked-init c = λ base q xs. itself (language_of c.args.table.now) _

pub loop-asked-preserved : goal.loop-asked-preserved
loop-asked-preserved c = λ base q xs. further (language_of c.args.table.now) (c.loop-asked.invariant base q xs) (c.in-Some.ensures base q xs) refl
