use Rattle.tree_nodes.specs.Syntax.Machine as M
use Rattle.cddl_tree.proofs.have.after_type1.Goals as goal
use Rattle.cddl_tree.proofs.Steps.{on_all, at_same}
use Rattle.cddl_tree.specs.Frames.{below, Gives, view_at_type1}
use Rattle.cddl_tree.proofs.After.{type1_first, type1_more, type1_argument}

pub returns-in-Nothing : goal.returns-in-Nothing
returns-in-Nothing c read rs = at_same read (below read rs c.args.frames.now.items) _ _ _ c.into_inner-home.ensures (type1_first read (below read rs c.args.frames.now.items) c.into_inner-home.result.home c.into_inner-home.result.before (λ (m : M.State). Gives read c.args.token rs (below read rs c.after_types.new.frames.items) c.after_types.result m) _ _ _ (read c.args.token.leaf) c.in-Nothing.is (c.one_type.ensures read) (c.after_types.ensures read rs))

pub returns-in-Ok : goal.returns-in-Ok
returns-in-Ok c read rs = at_same read (below read rs c.args.frames.now.items) _ _ _ c.into_inner-home.ensures (type1_more read (below read rs c.args.frames.now.items) c.into_inner-home.result.home c.into_inner-home.result.before (λ (m : M.State). Gives read c.args.token rs (below read rs c.after_types-in-Ok.new.frames.items) c.after_types-in-Ok.result m) _ _ _ _ _ (read c.args.token.leaf) c.in-Choices.is (c.in-Ok.ensures read) (c.after_types-in-Ok.ensures read rs))

pub returns-in-Err : goal.returns-in-Err
returns-in-Err c read rs = on_all (view_at_type1 read (below read rs c.args.frames.now.items) c.args.at.value) _ (λ k. tt)

pub returns-in-Ok-arg_of : goal.returns-in-Ok-arg_of
returns-in-Ok-arg_of c read rs = at_same read (below read rs c.args.frames.now.items) _ _ _ c.into_inner-home.ensures (type1_argument read (below read rs c.args.frames.now.items) c.into_inner-home.result.home c.into_inner-home.result.before (λ (m : M.State). Gives read c.args.token rs (below read rs c.after_argument.new.frames.items) c.after_argument.result m) _ _ _ _ (read c.args.token.leaf) c.in-Arguments.is (c.in-Ok-arg_of.ensures read) (c.after_argument.ensures read rs))

pub returns-in-Err-arg_of : goal.returns-in-Err-arg_of
returns-in-Err-arg_of c read rs = on_all (view_at_type1 read (below read rs c.args.frames.now.items) c.args.at.value) _ (λ k. tt)
