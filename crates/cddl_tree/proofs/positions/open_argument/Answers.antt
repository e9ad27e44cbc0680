use Rattle.std.proofs.Common.{ap}
use Rattle.tree_nodes.specs.Syntax.Machine as M
use Rattle.cddl_tree.specs.Frames.{as_argument, view_arguments, view_at_type1, Gives}
use Rattle.cddl_tree.proofs.Steps.{on_all}
use Rattle.cddl_tree.proofs.Closing.{argument_opened}
use Rattle.cddl_tree.proofs.positions.open_argument.Goals as goal

pub returns-in-Ok : goal.returns-in-Ok
returns-in-Ok c read t rs b = argument_opened (as_argument b (view_arguments read c.args.before)) _ (λ (m : M.State). Gives read t rs b c.want.result m) (ap (view_at_type1 read b) c.in-Ok.ensures.ok) (c.want.ensures read t rs b)

pub returns-in-Err : goal.returns-in-Err
returns-in-Err c read t rs b = on_all (as_argument b (view_arguments read c.args.before)) _ (λ k. tt)
