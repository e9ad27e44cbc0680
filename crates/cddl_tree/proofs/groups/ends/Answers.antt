use Rattle.std.proofs.Common.{ap}
use Rattle.tree_nodes.specs.Syntax.Machine as M
use Rattle.cddl_tree.proofs.groups.ends.Goals as goal
use Rattle.cddl_tree.proofs.Steps.{on_all}
use Rattle.cddl_tree.specs.Frames.{as_group, below, view_entries, Gives}
use Rattle.cddl_tree.proofs.Ends.{slashes_opened, ends_shut}

pub returns-in-DoubleSlash : goal.returns-in-DoubleSlash
returns-in-DoubleSlash c read rs = slashes_opened (as_group (below read rs c.args.frames.now.items)) _ _ _ _ c.args.token.kind (read c.args.token.leaf) (λ (m : M.State). Gives read c.args.token rs (below read rs c.open_member.new.frames.items) c.open_member.result m) c.in-DoubleSlash.is (c.in-Ok.ensures read) (ap (view_entries read) c.new.ensures.items) (c.open_member.ensures read c.args.token rs)

pub returns-in_default : goal.returns-in_default
returns-in_default c read rs = ends_shut (as_group (below read rs c.args.frames.now.items)) _ _ _ c.args.token.kind (read c.args.token.leaf) (λ (m : M.State). Gives read c.args.token rs (below read rs c.shut_group.new.frames.items) c.shut_group.result m) c.in_default.not-DoubleSlash (c.in-Ok.ensures read) (c.shut_group.ensures read rs)

pub returns-in-Err : goal.returns-in-Err
returns-in-Err c read rs = on_all (as_group (below read rs c.args.frames.now.items)) _ (λ k. tt)
