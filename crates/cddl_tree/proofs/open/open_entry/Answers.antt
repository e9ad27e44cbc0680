use Rattle.std.proofs.Common.{ap}
use Rattle.tree_nodes.specs.Syntax.Machine as M
use Rattle.cddl_tree.specs.Frames.{as_entry, below, view_entries, Gives}
use Rattle.cddl_tree.proofs.Steps.{on_all, popped}
use Rattle.cddl_tree.proofs.Closing.{entry_opened}
use Rattle.cddl_tree.proofs.Elsewhere.{fresh}
use Rattle.cddl_tree.proofs.open.open_entry.Goals as goal

pub returns-in-Ok : goal.returns-in-Ok
returns-in-Ok c read t rs = entry_opened (as_entry (below read rs c.args.frames.now.items)) _ _ _ (λ (m : M.State). Gives read t rs (below read rs c.open_member.new.frames.items) c.open_member.result m) (popped read rs _ _ _ c.in-Ok.ensures.items) (fresh _ _ _ (λ (m : M.State). Gives read t rs (below read rs c.open_member.new.frames.items) c.open_member.result m) (ap (view_entries read) c.new.ensures.items) (c.open_member.ensures read t rs))

pub returns-in-Err : goal.returns-in-Err
returns-in-Err c read t rs = on_all (as_entry (below read rs c.args.frames.now.items)) _ (λ k. tt)
