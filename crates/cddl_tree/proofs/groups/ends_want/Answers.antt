use Rattle.tree_nodes.specs.View.{leaf}
use Rattle.std.proofs.Common.{ap}
use Rattle.tree_nodes.specs.Syntax.Machine as M
use Rattle.cddl_tree.proofs.groups.ends_want.Goals as goal
use Rattle.cddl_tree.proofs.Steps.{head_none}
use Rattle.cddl_tree.specs.Frames.{as_entry, below, view_at_type2, Gives}
use Rattle.cddl_tree.proofs.Ends.{ends_twice, ends_refused}

pub returns-in-None-occur : goal.returns-in-None-occur
returns-in-None-occur c read rs = head_none (view_at_type2 read (below read rs c.args.frames.now.items) c.args.at) (as_entry (below read rs c.args.frames.now.items)) _ (λ (k : M.AtType2). Gives read c.args.token rs (below read rs c.ends_start.new.frames.items) c.ends_start.result (M.ends_want k c.args.token.kind (read c.args.token.leaf))) (ap (leaf read) c.in-None-occur.is) (c.in-Some.ensures read _) (c.ends_start.ensures read rs)

pub returns-in-Some-occur : goal.returns-in-Some-occur
returns-in-Some-occur c read rs = ends_twice (view_at_type2 read (below read rs c.args.frames.now.items) c.args.at) (as_entry (below read rs c.args.frames.now.items)) _ _ c.args.token.kind (read c.args.token.leaf) _ _ (ap (leaf read) c.in-Some-occur.is) (c.in-Some.ensures read _) c.unexpected.ensures

pub returns-in-None : goal.returns-in-None
returns-in-None c read rs = ends_refused (view_at_type2 read (below read rs c.args.frames.now.items) c.args.at) c.args.token.kind (read c.args.token.leaf) _ _ (c.in-None.ensures read (below read rs c.args.frames.now.items)) c.unexpected-in-None.ensures
