use Rattle.std.proofs.Common.{subst}
use Rattle.tree_nodes.specs.Syntax.Machine as M
use Rattle.tree_nodes.specs.declared.tree.GrpEnt.{GrpEnt}
use Rattle.tree_nodes.specs.View.{view_grpent}
use Rattle.cddl_tree.proofs.body.after_group.Goals as goal
use Rattle.cddl_tree.specs.Frames.{on, as_entry, below, Gives}

pub returns : goal.returns
returns c read rs = subst (λ (x : GrpEnt). on (as_entry (below read rs c.args.frames.now.items)) (λ p. Gives read c.args.token rs (below read rs c.after_entry.new.frames.items) c.after_entry.result (M.after_entry p (view_grpent read x) c.args.token.kind (read c.args.token.leaf)))) c.into_inner.ensures (c.after_entry.ensures read rs)
