use Rattle.std.proofs.Common.{ap}
use Rattle.tree_nodes.specs.Syntax.Machine as M
use Rattle.cddl_tree.specs.Frames.{below, view_entries, view_at_type2, Gives}
use Rattle.cddl_tree.proofs.Steps.{on_all, popped}
use Rattle.cddl_tree.proofs.Closing.{group_opened}
use Rattle.cddl_tree.proofs.Elsewhere.{fresh}
use Rattle.cddl_tree.proofs.open.open_group.Goals as goal

pub returns-in-Ok : goal.returns-in-Ok
returns-in-Ok c read t rs = group_opened (view_at_type2 read (below read rs c.args.frames.now.items) c.args.at) _ _ (λ (m : M.State). Gives read t rs (below read rs c.open_member.new.frames.items) c.open_member.result m) (popped read rs _ _ _ c.in-Ok.ensures.items) (fresh _ _ _ (λ (m : M.State). Gives read t rs (below read rs c.open_member.new.frames.items) c.open_member.result m) (ap (view_entries read) c.new.ensures.items) (c.open_member.ensures read t rs))

pub returns-in-Err : goal.returns-in-Err
returns-in-Err c read t rs = on_all (view_at_type2 read (below read rs c.args.frames.now.items) c.args.at) _ (λ k. tt)
