use Rattle.std.proofs.Common.{◌∙◌, ap}
use Rattle.tree_nodes.specs.Syntax.Machine as M
use Rattle.tree_nodes.specs.View.{view_grpent, view_name, view_assigng}
use Rattle.cddl_tree.specs.declared.frames.Frame.{Frame}
use Rattle.cddl_tree.proofs.entry.after_entry.Goals as goal
use Rattle.cddl_tree.proofs.Contents.{empty_items}
use Rattle.cddl_tree.proofs.Steps.{bottom, on_with, popped}
use Rattle.cddl_tree.specs.Frames.{below, above, as_entry, as_group, view_alternatives, view_entries, Gives}
use Rattle.cddl_tree.proofs.Heads.{body_entry, member_entry}
use Rattle.cddl_tree.proofs.Bodies.{nowhere_entry, other_frame}

pub returns-in-None : goal.returns-in-None
returns-in-None c read rs = nowhere_entry (below read rs c.args.frames.now.items) _ (bottom read rs c.args.frames.now.items (empty_items c.args.frames.now c.in-None.ensures.cases.0))

pub returns-in-GroupBody : goal.returns-in-GroupBody
returns-in-GroupBody c read rs = on_with (as_entry (below read rs c.args.frames.now.items)) _ _ (λ p. (c.rule_ends.ensures read) c.args.token rs (below read rs c.pop.new.self.items) (M.after_entry p (view_grpent read c.args.grpent) c.args.token.kind (read c.args.token.leaf))) (body_entry (below read rs c.args.frames.now.items) rs (view_name read c.in-GroupBody.name) (view_assigng read c.in-GroupBody.assign) (view_grpent read c.args.grpent) _ c.args.token.kind (read c.args.token.leaf) (popped read rs c.args.frames.now.items c.pop.new.self.items c.in-Some.frame c.in-Some.ensures.items ∙ ap (λ (f : Frame). above read rs (below read rs c.pop.new.self.items) f) c.in-GroupBody.is) (c.rule_of.ensures read))

pub returns-in-Member : goal.returns-in-Member
returns-in-Member c read rs = member_entry (below read rs c.args.frames.now.items) (as_group (below read rs c.pop.new.self.items)) (view_alternatives read c.in-Member.before) (view_entries read c.in-Member.entries.items) (view_grpent read c.args.grpent) c.args.token.kind (read c.args.token.leaf) (λ (m : M.State). Gives read c.args.token rs (below read rs c.after_member.new.frames.items) c.after_member.result m) (popped read rs c.args.frames.now.items c.pop.new.self.items c.in-Some.frame c.in-Some.ensures.items ∙ ap (λ (f : Frame). above read rs (below read rs c.pop.new.self.items) f) c.in-Member.is) (c.after_member.ensures read rs)

pub returns-in_default : goal.returns-in_default
returns-in_default c read rs = other_frame read rs (below read rs c.args.frames.now.items) (below read rs c.pop.new.self.items) c.in-Some.frame _ (popped read rs c.args.frames.now.items c.pop.new.self.items c.in-Some.frame c.in-Some.ensures.items) c.in_default.not-GroupBody c.in_default.not-Member
