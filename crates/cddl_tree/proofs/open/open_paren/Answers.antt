use Rattle.tree_nodes.specs.Syntax.Machine as M
use Rattle.cddl_tree.specs.Frames.{as_entry, below, view_at_type2, Gives}
use Rattle.cddl_tree.proofs.Closing.{head_at}
use Rattle.cddl_tree.proofs.Elsewhere.{paren_elsewhere}
use Rattle.cddl_tree.proofs.open.open_paren.Goals as goal

pub returns-in-Some : goal.returns-in-Some
returns-in-Some c read t rs = head_at (view_at_type2 read (below read rs c.args.frames.now.items) c.args.at) (as_entry (below read rs c.args.frames.now.items)) _ (λ (k : M.AtType2). Gives read t rs (below read rs c.open_entry.new.frames.items) c.open_entry.result (M.open_paren k (read c.args.opening))) (c.in-Some.ensures read _) (c.open_entry.ensures read t rs)

pub returns-in-None : goal.returns-in-None
returns-in-None c read t rs = paren_elsewhere (view_at_type2 read (below read rs c.args.frames.now.items) c.args.at) (read c.args.opening) (λ (m : M.State). Gives read t rs (below read rs c.open_inside.new.frames.items) c.open_inside.result m) (c.in-None.ensures read (below read rs c.args.frames.now.items)) (c.open_inside.ensures read t rs)
