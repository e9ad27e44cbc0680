use Rattle.std.proofs.Common.{◌∙◌, ap}
use Rattle.tree_nodes.specs.Syntax.Machine as M
use Rattle.cddl_tree.proofs.groups.shut_group.Goals as goal
use Rattle.cddl_tree.proofs.Contents.{empty_items}
use Rattle.cddl_tree.proofs.Steps.{on_all, refuses, popped, bottom}
use Rattle.cddl_tree.specs.Frames.{as_entry, below, above, Gives, Refused}
use Rattle.cddl_tree.proofs.Ends.{within_shut, in_entry_shut, in_entry_other, nothing_group, group_default, entry_shut}

pub returns-in-None : goal.returns-in-None
returns-in-None c read rs = nothing_group (below read rs c.args.frames.now.items) _ (bottom read rs c.args.frames.now.items (empty_items c.args.frames.now c.in-None.ensures.cases.0))

pub returns-in-Group : goal.returns-in-Group
returns-in-Group c read rs = within_shut (below read rs c.args.frames.now.items) _ _ _ c.args.token.kind (read c.args.token.leaf) (λ (m : M.State). Gives read c.args.token rs (below read rs c.pop.new.self.items) c.shut_within.result m) (popped read rs c.args.frames.now.items c.pop.new.self.items c.in-Some.frame c.in-Some.ensures.items ∙ ap (above read rs (below read rs c.pop.new.self.items)) c.in-Group.is) (c.shut_within.ensures read rs (below read rs c.pop.new.self.items))

pub returns-in-ParenClose : goal.returns-in-ParenClose
returns-in-ParenClose c read rs = entry_shut (below read rs c.args.frames.now.items) _ _ _ _ c.args.token.kind (read c.args.token.leaf) (λ (m : M.State). Gives read c.args.token rs (below read rs c.pop.new.self.items) c.shut_entry.result m) (popped read rs c.args.frames.now.items c.pop.new.self.items c.in-Some.frame c.in-Some.ensures.items ∙ ap (above read rs (below read rs c.pop.new.self.items)) c.in-Entry.is) c.in-ParenClose.is (c.shut_entry.ensures read rs (below read rs c.pop.new.self.items))

pub returns-in_default-kind : goal.returns-in_default-kind
returns-in_default-kind c read rs = in_entry_shut (below read rs c.args.frames.now.items) (as_entry (below read rs c.pop.new.self.items)) _ _ _ c.args.token.kind (read c.args.token.leaf) (λ (m : M.State). Refused c.args.token.start c.unexpected-in_default-kind.result m) (popped read rs c.args.frames.now.items c.pop.new.self.items c.in-Some.frame c.in-Some.ensures.items ∙ ap (above read rs (below read rs c.pop.new.self.items)) c.in-Entry.is) (on_all (as_entry (below read rs c.pop.new.self.items)) _ (λ p. refuses c.args.token.start _ _ c.unexpected-in_default-kind.ensures (in_entry_other p _ _ _ c.args.token.kind (read c.args.token.leaf) c.in_default-kind.not-ParenClose)))

pub returns-in_default : goal.returns-in_default
returns-in_default c read rs = group_default read (below read rs c.args.frames.now.items) rs (below read rs c.pop.new.self.items) c.in-Some.frame _ (popped read rs c.args.frames.now.items c.pop.new.self.items c.in-Some.frame c.in-Some.ensures.items) c.in_default.not-Group c.in_default.not-Entry
