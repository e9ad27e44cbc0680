use Rattle.std.proofs.Common.{◌∙◌, ap}
use Rattle.tree_nodes.specs.Syntax.Machine as M
use Rattle.cddl_tree.proofs.groups.ends_start.Goals as goal
use Rattle.cddl_tree.proofs.Contents.{empty_items}
use Rattle.cddl_tree.proofs.Steps.{popped, bottom}
use Rattle.cddl_tree.specs.Frames.{below, above, Gives}
use Rattle.cddl_tree.proofs.Ends.{ends_member, nothing_entry, ends_default}

pub returns-in-None : goal.returns-in-None
returns-in-None c read rs = nothing_entry (below read rs c.args.frames.now.items) _ (bottom read rs c.args.frames.now.items (empty_items c.args.frames.now c.in-None.ensures.cases.0))

pub returns-in-Member : goal.returns-in-Member
returns-in-Member c read rs = ends_member (below read rs c.args.frames.now.items) _ _ _ c.args.token.kind (read c.args.token.leaf) (λ (m : M.State). Gives read c.args.token rs (below read rs c.ends.new.frames.items) c.ends.result m) (popped read rs c.args.frames.now.items c.pop.new.self.items c.in-Some.frame c.in-Some.ensures.items ∙ ap (above read rs (below read rs c.pop.new.self.items)) c.in-Member.is) (c.ends.ensures read rs)

pub returns-in_default : goal.returns-in_default
returns-in_default c read rs = ends_default read (below read rs c.args.frames.now.items) rs (below read rs c.pop.new.self.items) c.in-Some.frame c.args.token.kind (read c.args.token.leaf) _ _ (popped read rs c.args.frames.now.items c.pop.new.self.items c.in-Some.frame c.in-Some.ensures.items) c.unexpected-in_default.ensures c.in_default.not-Member
