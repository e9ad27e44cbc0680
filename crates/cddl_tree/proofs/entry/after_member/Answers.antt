use Rattle.std.proofs.Common.{None}
use Rattle.tree_nodes.specs.Syntax.Machine as M
use Rattle.tree_nodes.specs.View.{view_grpent}
use Rattle.cddl_tree.proofs.entry.after_member.Goals as goal
use Rattle.cddl_tree.proofs.Steps.{on_all, popped}
use Rattle.cddl_tree.specs.Frames.{below, as_group, view_at_type2, view_alternatives, view_entries, Gives}
use Rattle.cddl_tree.proofs.Heads.{on_along, entry_comma, entry_other, entry_want}

pub returns-in-Ok : goal.returns-in-Ok
returns-in-Ok c read rs = on_along (as_group (below read rs c.args.frames.now.items)) (λ (m : M.State). Gives read c.args.token rs (below read rs c.open_member.new.frames.items) c.open_member.result m) (λ (k : M.AtGroup). M.after_entry (M.member k (view_alternatives read c.args.before) (view_entries read c.args.entries.items)) (view_grpent read c.args.grpent) c.args.token.kind (read c.args.token.leaf)) (λ (k : M.AtGroup). M.open_entry (M.member k (view_alternatives read c.args.before) (view_entries read c.in-Ok.entries.items))) (λ k. entry_comma k _ _ _ _ _ (read c.args.token.leaf) c.in-Comma.is (c.in-Ok.ensures read)) (c.open_member.ensures read c.args.token rs)

pub returns-in-Err : goal.returns-in-Err
returns-in-Err c read rs = on_all (as_group (below read rs c.args.frames.now.items)) _ (λ k. tt)

pub returns-in-Ok-type_at : goal.returns-in-Ok-type_at
returns-in-Ok-type_at c read rs = on_along (as_group (below read rs c.args.frames.now.items)) (λ (m : M.State). Gives read c.args.token rs (below read rs c.step_want.new.frames.items) c.step_want.result m) (λ (k : M.AtGroup). M.after_entry (M.member k (view_alternatives read c.args.before) (view_entries read c.args.entries.items)) (view_grpent read c.args.grpent) c.args.token.kind (read c.args.token.leaf)) (λ (k : M.AtGroup). M.step_want (M.lower (M.head (M.start (M.member k (view_alternatives read c.args.before) (view_entries read c.in-Ok-with_entry.entries.items)) None))) c.args.token.kind (read c.args.token.leaf)) (λ k. entry_other k _ _ _ _ _ (read c.args.token.leaf) c.in_default.not-Comma (c.in-Ok-with_entry.ensures read)) (entry_want (as_group (below read rs c.args.frames.now.items)) (below read rs c.push_last.new.list.items) (view_alternatives read c.args.before) (view_entries read c.in-Ok-with_entry.entries.items) (view_at_type2 read (below read rs c.push_last.new.list.items) c.in-Ok-type_at.at) (λ (k : M.AtType2). Gives read c.args.token rs (below read rs c.step_want.new.frames.items) c.step_want.result (M.step_want k c.args.token.kind (read c.args.token.leaf))) (popped read rs c.push_last.new.list.items c.args.frames.now.items _ c.in-Ok-push_last.ensures.items) (c.in-Ok-type_at.ensures read (below read rs c.push_last.new.list.items)) (c.step_want.ensures read rs))

pub returns-in-Err-type_at : goal.returns-in-Err-type_at
returns-in-Err-type_at c read rs = on_all (as_group (below read rs c.args.frames.now.items)) _ (λ k. tt)

pub returns-in-Err-push_last : goal.returns-in-Err-push_last
returns-in-Err-push_last c read rs = on_all (as_group (below read rs c.args.frames.now.items)) _ (λ k. tt)

pub returns-in-Err-with_entry : goal.returns-in-Err-with_entry
returns-in-Err-with_entry c read rs = on_all (as_group (below read rs c.args.frames.now.items)) _ (λ k. tt)
