use Rattle.tree_nodes.specs.Syntax.Machine as M
use Rattle.cddl_tree.specs.Frames.{below, view_at_type2, Gives}
use Rattle.cddl_tree.proofs.Steps.{on_same}
use Rattle.cddl_tree.proofs.want.step_want.Goals as goal

pub returns-in-Some : goal.returns-in-Some
returns-in-Some c read rs = on_same (view_at_type2 read (below read rs c.args.frames.now.items) c.args.at) (λ (m : M.State). Gives read c.args.token rs (below read rs c.args.frames.now.items) c.have_type2.result m) _ _ (c.in-Some.ensures read) (c.have_type2.ensures read c.args.token rs (below read rs c.args.frames.now.items))

pub head_want-requires : goal.head_want-requires
head_want-requires c = c.in-None.ensures

pub returns-in-None : goal.returns-in-None
returns-in-None c read rs = c.head_want.ensures read rs
