use Rattle.std.proofs.Common.{ap, None}
use Rattle.cddl_tree.specs.States.{view_rules}
use Rattle.cddl_token.specs.declared.Kind.{Kind}
use Rattle.tree_nodes.specs.Syntax.Syntax as S
use Rattle.tree_nodes.specs.Syntax.Machine as M
use Rattle.tree_nodes.specs.View.{view_name}
use Rattle.cddl_tree.proofs.rules.after_name.Goals as goal
use Rattle.cddl_tree.proofs.Steps.{refuses}
use Rattle.cddl_tree.proofs.Bodies.{assigned_other, begun}

pub returns-in-Assign : goal.returns-in-Assign
returns-in-Assign c read = begun read c.args.token.start c.begin_body.result (M.start (M.group_body (view_rules read c.args.rules.items) (view_name read c.args.name) (S.group_is (read c.args.token.leaf))) None) (M.assigned (view_rules read c.args.rules.items) (view_name read c.args.name) c.args.token.kind (read c.args.token.leaf)) (ap (λ (i : Kind). M.assigned (view_rules read c.args.rules.items) (view_name read c.args.name) i (read c.args.token.leaf)) c.in-Assign.is) (c.begin_body.ensures read)

pub returns-in-TypeAssign : goal.returns-in-TypeAssign
returns-in-TypeAssign c read = begun read c.args.token.start c.begin_body-in-TypeAssign.result (M.body (view_rules read c.args.rules.items) (view_name read c.args.name) (read c.args.token.leaf)) (M.assigned (view_rules read c.args.rules.items) (view_name read c.args.name) c.args.token.kind (read c.args.token.leaf)) (ap (λ (i : Kind). M.assigned (view_rules read c.args.rules.items) (view_name read c.args.name) i (read c.args.token.leaf)) c.in-TypeAssign.is) (c.begin_body-in-TypeAssign.ensures read)

pub returns-in-GroupAssign : goal.returns-in-GroupAssign
returns-in-GroupAssign c read = begun read c.args.token.start c.begin_body-in-GroupAssign.result (M.start (M.group_body (view_rules read c.args.rules.items) (view_name read c.args.name) (S.group_or (read c.args.token.leaf))) None) (M.assigned (view_rules read c.args.rules.items) (view_name read c.args.name) c.args.token.kind (read c.args.token.leaf)) (ap (λ (i : Kind). M.assigned (view_rules read c.args.rules.items) (view_name read c.args.name) i (read c.args.token.leaf)) c.in-GroupAssign.is) (c.begin_body-in-GroupAssign.ensures read)

pub returns-in_default : goal.returns-in_default
returns-in_default c read = refuses c.args.token.start _ _ c.unexpected.ensures (assigned_other (view_rules read c.args.rules.items) (view_name read c.args.name) c.args.token.kind (read c.args.token.leaf) c.in_default.not-Assign c.in_default.not-TypeAssign c.in_default.not-GroupAssign)
