use Rattle.std.proofs.Common.{ap, refl}
use Rattle.cddl_tree.specs.States.{view_state}
use Rattle.cddl_tree.proofs.rules.within.Goals as goal

pub returns-in-Ok : goal.returns-in-Ok
returns-in-Ok c read = ap (view_state read) c.in-Ok.ensures.ok

pub returns-in-Err : goal.returns-in-Err
returns-in-Err c = refl
