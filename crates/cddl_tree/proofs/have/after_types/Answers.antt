use Rattle.std.proofs.Common.{ap, sym}
use Rattle.tree_nodes.specs.Syntax.Syntax as S
use Rattle.tree_nodes.specs.Syntax.Machine as M
use Rattle.tree_nodes.specs.View.{leaf, view_types, view_key}
use Rattle.tree_nodes.proofs.Lemmas.{view-Keyed}
use Rattle.cddl_tree.proofs.have.after_types.Goals as goal
use Rattle.cddl_tree.proofs.Steps.{on_same}
use Rattle.cddl_tree.specs.Frames.{below, as_entry, Gives}
use Rattle.cddl_tree.proofs.After.{on_made, on_home}

pub returns-in-Inside : goal.returns-in-Inside
returns-in-Inside c read rs = on_home read (below read rs c.args.frames.now.items) _ _ _ c.in-Inside.is (c.after_inside.ensures read rs)

pub returns-in-Start : goal.returns-in-Start
returns-in-Start c read rs = on_home read (below read rs c.args.frames.now.items) _ _ _ c.in-Start.is (on_made (λ (p : M.AtEntry). M.start p (leaf read c.in-Start.occur)) (as_entry (below read rs c.args.frames.now.items)) (λ (k : M.AtTypes). Gives read c.args.token rs (below read rs c.after_start.new.frames.items) c.after_start.result (M.after_types k (view_types read c.args.types) c.args.token.kind (read c.args.token.leaf))) (c.after_start.ensures read rs))

pub returns-in-ValueOf : goal.returns-in-ValueOf
returns-in-ValueOf c read rs = on_home read (below read rs c.args.frames.now.items) _ _ _ c.in-ValueOf.is (on_made (λ (p : M.AtEntry). M.value_of p (leaf read c.in-ValueOf.occur) (view_key read c.in-ValueOf.key.value)) (as_entry (below read rs c.args.frames.now.items)) (λ (k : M.AtTypes). Gives read c.args.token rs (below read rs c.after_entry.new.frames.items) c.after_entry.result (M.after_types k (view_types read c.args.types) c.args.token.kind (read c.args.token.leaf))) (on_same (as_entry (below read rs c.args.frames.now.items)) (λ (m : M.State). Gives read c.args.token rs (below read rs c.after_entry.new.frames.items) c.after_entry.result m) _ _ (λ (p : M.AtEntry). ap (λ (e : S.GrpEnt). M.after_entry p e c.args.token.kind (read c.args.token.leaf)) (sym (view-Keyed read _ _ _))) (c.after_entry.ensures read rs)))
