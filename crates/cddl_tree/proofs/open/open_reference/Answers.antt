use Rattle.tree_nodes.specs.Syntax.Machine as M
use Rattle.cddl_tree.specs.Frames.{below, view_at_type2, Gives}
use Rattle.cddl_tree.proofs.Steps.{on_all, popped}
use Rattle.cddl_tree.proofs.Closing.{reference_opened}
use Rattle.cddl_tree.proofs.open.open_reference.Goals as goal

pub returns-in-Ok : goal.returns-in-Ok
returns-in-Ok c read t rs = reference_opened (view_at_type2 read (below read rs c.args.frames.now.items) c.args.at) _ _ _ (λ (m : M.State). Gives read t rs (below read rs c.push_last.new.list.items) c.open_argument.result m) (popped read rs _ _ _ c.in-Ok.ensures.items) (c.open_argument.ensures read t rs _)

pub returns-in-Err : goal.returns-in-Err
returns-in-Err c read t rs = on_all (view_at_type2 read (below read rs c.args.frames.now.items) c.args.at) _ (λ k. tt)
