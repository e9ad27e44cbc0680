use Rattle.tree_nodes.specs.Syntax.Machine as M
use Rattle.cddl_tree.specs.Frames.{view_at_type1, Gives}
use Rattle.cddl_tree.proofs.Steps.{slash_first, slash_more, slash_argument, on_all, at_same}
use Rattle.cddl_tree.proofs.have.slash.Goals as goal

pub returns-in-Nothing : goal.returns-in-Nothing
returns-in-Nothing c read rs b = at_same read b _ _ _ c.into_inner-home.ensures (slash_first read b c.into_inner-home.result.home c.into_inner-home.result.before (λ (m : M.State). Gives read c.args.token rs b c.next_choice.result m) _ _ (read c.args.token.leaf) c.in-Nothing.is (c.one_type.ensures read) (c.next_choice.ensures read c.args.token rs b))

pub returns-in-Ok : goal.returns-in-Ok
returns-in-Ok c read rs b = at_same read b _ _ _ c.into_inner-home.ensures (slash_more read b c.into_inner-home.result.home c.into_inner-home.result.before (λ (m : M.State). Gives read c.args.token rs b c.next_choice-in-Ok.result m) _ _ _ _ (read c.args.token.leaf) c.in-Choices.is (c.in-Ok.ensures read) (c.next_choice-in-Ok.ensures read c.args.token rs b))

pub returns-in-Err : goal.returns-in-Err
returns-in-Err c read rs b = on_all (view_at_type1 read b c.args.at.value) _ (λ k. tt)

pub returns-in-Arguments : goal.returns-in-Arguments
returns-in-Arguments c read rs b = at_same read b _ _ _ c.into_inner-home.ensures (slash_argument read b c.into_inner-home.result.home c.into_inner-home.result.before _ _ (read c.args.token.leaf) _ _ c.in-Arguments.is c.unexpected.ensures)
