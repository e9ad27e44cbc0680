use Rattle.tree_nodes.specs.Syntax.Machine as M
use Rattle.tree_nodes.specs.View.{leaf}
use Rattle.std.proofs.Common.{ap}
use Rattle.cddl_tree.specs.Frames.{as_entry, view_at_type2, Gives}
use Rattle.cddl_tree.proofs.Closing.{occur_taken}
use Rattle.cddl_tree.proofs.Steps.{head_none}
use Rattle.cddl_tree.proofs.Elsewhere.{occur_twice, occur_refused}
use Rattle.cddl_tree.proofs.open.occur_want.Goals as goal

pub returns-in-None-occur : goal.returns-in-None-occur
returns-in-None-occur c read rs b = head_none (view_at_type2 read b c.args.at) (as_entry b) _ (λ (k : M.AtType2). Gives read c.args.token rs b c.open_type.result (M.occur_want k (read c.args.token.leaf))) (ap (leaf read) c.in-None-occur.is) (c.in-Some.ensures read b) (occur_taken (as_entry b) (read c.args.token.leaf) (λ (m : M.State). Gives read c.args.token rs b c.open_type.result m) (c.open_type.ensures read c.args.token rs b))

pub returns-in-Some-occur : goal.returns-in-Some-occur
returns-in-Some-occur c read rs b = occur_twice (view_at_type2 read b c.args.at) (as_entry b) _ _ (read c.args.token.leaf) _ _ (ap (leaf read) c.in-Some-occur.is) (c.in-Some.ensures read b) c.unexpected.ensures

pub returns-in-None : goal.returns-in-None
returns-in-None c read rs b = occur_refused (view_at_type2 read b c.args.at) (read c.args.token.leaf) _ _ (c.in-None.ensures read b) c.unexpected-in-None.ensures
