use Rattle.std.proofs.Common.{◌∙◌, ap, refl}
use Rattle.tree_nodes.specs.Syntax.Syntax as S
use Rattle.tree_nodes.specs.declared.tree.Rule.{Rule}
use Rattle.tree_nodes.specs.View.{view_rule}
use Rattle.cddl_tree.proofs.rules.with_rule.Goals as goal
use Rattle.cddl_tree.specs.States.{view_rules}
use Rattle.cddl_tree.proofs.Adding.{view_rules-push}

pub returns-in-Ok : goal.returns-in-Ok
returns-in-Ok c read = ap (view_rules read) c.in-Ok.ensures.items ∙ view_rules-push read c.args.rules.items c.into_inner.result ∙ ap (λ (r : Rule). S.rules (view_rules read c.args.rules.items) (view_rule read r)) c.into_inner.ensures

pub returns-in-Err : goal.returns-in-Err
returns-in-Err c = refl
