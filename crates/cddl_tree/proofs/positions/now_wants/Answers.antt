use Rattle.std.proofs.Common.{ap, refl}
use Rattle.cddl_tree.specs.Frames.{view_now}
use Rattle.cddl_tree.proofs.positions.now_wants.Goals as goal

pub returns-in-Ok : goal.returns-in-Ok
returns-in-Ok c read b = ap (view_now read b) c.in-Ok.ensures.ok

pub returns-in-Err : goal.returns-in-Err
returns-in-Err c = refl
