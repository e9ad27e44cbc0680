use Rattle.std.proofs.Common.{refl}
use Rattle.tree_nodes.specs.Syntax.Machine as M
use Rattle.cddl_tree.specs.Frames.{made, view_home}
use Rattle.cddl_tree.proofs.Bodies.{awaited_at}
use Rattle.cddl_tree.proofs.positions.now_wants_type.Goals as goal

pub returns-in-Ok : goal.returns-in-Ok
returns-in-Ok c = awaited_at c.now_wants.result c.in-Ok.at (λ read b. made (λ (k : M.AtTypes). M.lower (M.head k)) (view_home read b c.args.home)) c.in-Ok.ensures c.now_wants.ensures

pub returns-in-Err : goal.returns-in-Err
returns-in-Err c = refl
