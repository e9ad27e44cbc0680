use Rattle.std.proofs.Common.{◌∙◌, ap}
use Rattle.tree_nodes.specs.Syntax.Syntax as S
use Rattle.tree_nodes.specs.Syntax.Machine as M
use Rattle.tree_nodes.specs.declared.tree.GenericArg.{GenericArg}
use Rattle.tree_nodes.specs.View.{view_arg}
use Rattle.tree_nodes.proofs.Lemmas.{view-Applied}
use Rattle.cddl_tree.proofs.have.shut_arguments.Goals as goal
use Rattle.cddl_tree.proofs.Contents.{empty_items}
use Rattle.cddl_tree.proofs.Steps.{popped, bottom, on_all}
use Rattle.cddl_tree.specs.Frames.{below, above, view_prefix, as_reference, Gives}
use Rattle.cddl_tree.proofs.After.{argument_shut, on_none, no_reference, nowhere_reference}

pub returns-in-None : goal.returns-in-None
returns-in-None c read rs = on_none (as_reference (below read rs c.args.frames.now.items)) _ (nowhere_reference _ (bottom read rs c.args.frames.now.items (empty_items c.args.frames.now c.in-None.ensures.cases.0)))

pub returns-in-Ok : goal.returns-in-Ok
returns-in-Ok c read rs = argument_shut (below read rs c.args.frames.now.items) _ _ _ _ (read c.args.token.leaf) _ (λ (m : M.State). Gives read c.args.token rs (below read rs c.pop.new.self.items) c.have_type2.result m) (popped read rs c.args.frames.now.items c.pop.new.self.items c.in-Some.frame c.in-Some.ensures.items ∙ ap (above read rs (below read rs c.pop.new.self.items)) c.in-Reference.is) (c.type2_of.ensures read ∙ ap (M.prefixed (view_prefix read c.in-Reference.prefix)) (view-Applied read _ _ _ ∙ ap (λ (a : GenericArg). S.applied (read c.in-Reference.opening) (view_arg read a) (read c.args.token.leaf)) c.in-Ok.ensures.ok)) (c.have_type2.ensures read c.args.token rs (below read rs c.pop.new.self.items))

pub returns-in-Err : goal.returns-in-Err
returns-in-Err c read rs = on_all (as_reference (below read rs c.args.frames.now.items)) _ (λ y. tt)

pub returns-in_default : goal.returns-in_default
returns-in_default c read rs = on_none (as_reference (below read rs c.args.frames.now.items)) _ (ap as_reference (popped read rs c.args.frames.now.items c.pop.new.self.items c.in-Some.frame c.in-Some.ensures.items) ∙ no_reference read rs (below read rs c.pop.new.self.items) c.in-Some.frame c.in_default.not-Reference)
