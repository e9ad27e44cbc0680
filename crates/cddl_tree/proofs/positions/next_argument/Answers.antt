use Rattle.std.proofs.Common.{ap}
use Rattle.tree_nodes.specs.View.{view_arg}
use Rattle.tree_nodes.specs.Syntax.Machine as M
use Rattle.cddl_tree.specs.Frames.{as_reference, Gives}
use Rattle.cddl_tree.proofs.Steps.{on_all}
use Rattle.cddl_tree.proofs.Closing.{argument_comma}
use Rattle.cddl_tree.proofs.positions.next_argument.Goals as goal

pub returns-in-Ok : goal.returns-in-Ok
returns-in-Ok c read t rs b = argument_comma b (view_arg read c.in-Ok.arguments.value) (view_arg read c.args.arguments) (read c.args.comma) (λ (m : M.State). Gives read t rs b c.open_argument.result m) (ap (view_arg read) c.in-Ok.ensures.ok) (c.open_argument.ensures read t rs b)

pub returns-in-Err : goal.returns-in-Err
returns-in-Err c read t rs b = on_all (as_reference b) _ (λ y. tt)
