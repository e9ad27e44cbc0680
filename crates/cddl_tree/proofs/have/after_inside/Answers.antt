use Rattle.std.proofs.Common.{◌∙◌, ap, refl}
use Rattle.tree_nodes.specs.Syntax.Machine as M
use Rattle.tree_nodes.specs.View.{view_types, view_name}
use Rattle.cddl_tree.proofs.have.after_inside.Goals as goal
use Rattle.cddl_tree.proofs.Contents.{empty_items}
use Rattle.cddl_tree.proofs.Steps.{popped, bottom}
use Rattle.cddl_tree.specs.Frames.{below, above, as_types, Gives}
use Rattle.cddl_tree.proofs.After.{body_ended, inside_shut, on_none, no_types, nowhere_types}

pub returns-in-None : goal.returns-in-None
returns-in-None c read rs = on_none (as_types (below read rs c.args.frames.now.items)) _ (nowhere_types _ (bottom read rs c.args.frames.now.items (empty_items c.args.frames.now c.in-None.ensures.cases.0)))

pub returns-in-TypeBody : goal.returns-in-TypeBody
returns-in-TypeBody c read rs = body_ended (below read rs c.args.frames.now.items) rs (view_name read c.in-TypeBody.name) (read c.in-TypeBody.assign) (view_types read c.args.types) c.args.token.kind (read c.args.token.leaf) (λ (m : M.State). Gives read c.args.token rs (below read rs c.pop.new.self.items) c.rule_ends.result m) (popped read rs c.args.frames.now.items c.pop.new.self.items c.in-Some.frame c.in-Some.ensures.items ∙ ap (above read rs (below read rs c.pop.new.self.items)) c.in-TypeBody.is) (c.rule_ends.ensures read c.args.token rs (below read rs c.pop.new.self.items) _ refl)

pub returns-in-Types : goal.returns-in-Types
returns-in-Types c read rs = inside_shut (below read rs c.args.frames.now.items) _ _ _ _ (read c.args.token.leaf) (λ (m : M.State). Gives read c.args.token rs (below read rs c.pop.new.self.items) c.shut_types.result m) (popped read rs c.args.frames.now.items c.pop.new.self.items c.in-Some.frame c.in-Some.ensures.items ∙ ap (above read rs (below read rs c.pop.new.self.items)) c.in-Types.is) (c.shut_types.ensures read rs (below read rs c.pop.new.self.items))

pub returns-in_default : goal.returns-in_default
returns-in_default c read rs = on_none (as_types (below read rs c.args.frames.now.items)) _ (ap as_types (popped read rs c.args.frames.now.items c.pop.new.self.items c.in-Some.frame c.in-Some.ensures.items) ∙ no_types read rs (below read rs c.pop.new.self.items) c.in-Some.frame c.in_default.not-TypeBody c.in_default.not-Types)
