use Rattle.tree_nodes.specs.Syntax.Machine as M
use Rattle.cddl_tree.specs.Frames.{as_group, below, Gives}
use Rattle.cddl_tree.proofs.Steps.{on_all, popped}
use Rattle.cddl_tree.proofs.Closing.{member_opened}
use Rattle.cddl_tree.proofs.open.open_member.Goals as goal

pub returns-in-Ok : goal.returns-in-Ok
returns-in-Ok c read t rs = member_opened (as_group (below read rs c.args.frames.now.items)) _ _ _ (λ (m : M.State). Gives read t rs (below read rs c.push_last.new.list.items) c.open_type.result m) (popped read rs _ _ _ c.in-Ok.ensures.items) (c.open_type.ensures read t rs _)

pub returns-in-Err : goal.returns-in-Err
returns-in-Err c read t rs = on_all (as_group (below read rs c.args.frames.now.items)) _ (λ k. tt)
