use Rattle.std.proofs.Common.{◌∙◌, ap}
use Rattle.tree_nodes.specs.Syntax.Machine as M
use Rattle.tree_nodes.specs.Syntax.Syntax as S
use Rattle.tree_nodes.specs.declared.tree.GrpEnt.{GrpEnt}
use Rattle.tree_nodes.specs.View.{view_grpent, view_name}
use Rattle.cddl_tree.proofs.entry.rule_of.Goals as goal
use Rattle.cddl_tree.proofs.Heads.{rule_typed, rule_grouped, rule_or}

pub returns-in-GroupOr : goal.returns-in-GroupOr
returns-in-GroupOr c read = rw c.in-GroupOr.is (rule_or _ _ _)

pub returns-in-Ok : goal.returns-in-Ok
returns-in-Ok c read = rw c.in-GroupIs.is (rule_typed _ _ _ _ (c.in-Ok.ensures.bare read))

pub returns-in-Err : goal.returns-in-Err
returns-in-Err c read = rw c.in-GroupIs.is (rule_grouped (view_name read c.args.name) _ (view_grpent read c.in-Err.grpent) (c.in-Err.ensures.other.1 read) ∙ ap (λ (g : GrpEnt). M.rule_of (view_name read c.args.name) (S.group_is (read c.in-GroupIs.token)) (view_grpent read g)) c.in-Err.ensures.other.0)
