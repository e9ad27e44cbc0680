use Rattle.std.proofs.Common.{ap}
use Rattle.tree_nodes.specs.View.{leaf, view_key}
use Rattle.tree_nodes.specs.Syntax.Machine as M
use Rattle.cddl_tree.specs.Frames.{as_entry, Gives}
use Rattle.cddl_tree.proofs.Steps.{on_all}
use Rattle.cddl_tree.proofs.Closing.{value_opened}
use Rattle.cddl_tree.proofs.positions.value_at.Goals as goal

pub returns-in-Ok : goal.returns-in-Ok
returns-in-Ok c read t rs b = value_opened (as_entry b) (leaf read c.args.occur) (view_key read c.in-Ok.key.value) (view_key read c.args.key) (λ (m : M.State). Gives read t rs b c.open_type.result m) (ap (view_key read) c.in-Ok.ensures.ok) (c.open_type.ensures read t rs b)

pub returns-in-Err : goal.returns-in-Err
returns-in-Err c read t rs b = on_all (as_entry b) _ (λ p. tt)
