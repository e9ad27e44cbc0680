use Rattle.std.proofs.Common.{◌∙◌, ap, sym}
use Rattle.tree_nodes.specs.Syntax.Syntax as S
use Rattle.tree_nodes.specs.Syntax.Machine as M
use Rattle.tree_nodes.specs.declared.tree.Rule.{Rule}
use Rattle.tree_nodes.specs.View.{view_rule}
use Rattle.cddl_tree.proofs.positions.rule_ends.Goals as goal

pub returns-in-Ok : goal.returns-in-Ok
returns-in-Ok c read t rs b m h = h ∙ ap (λ (r : Rule). M.next_rule (S.rules rs (view_rule read r)) t.kind (read t.leaf)) (sym c.in-Ok.ensures.ok)

pub returns-in-Err : goal.returns-in-Err
returns-in-Err c read t rs b m h = tt
