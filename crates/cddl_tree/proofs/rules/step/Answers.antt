use Rattle.std.proofs.Common.{◌∙◌, ap, refl, sym}
use Rattle.tree_nodes.specs.Syntax.Machine as M
use Rattle.tree_nodes.specs.View.{view_name, view_parm}
use Rattle.cddl_tree.proofs.rules.step.Goals as goal
use Rattle.cddl_tree.proofs.Steps.{refuses}
use Rattle.cddl_tree.specs.Frames.{below, view_now, view_parameters, Refused}
use Rattle.cddl_tree.proofs.Bodies.{now_at, on_through, begin_next}
use Rattle.cddl_tree.specs.States.{view_rules, view_state, GivesState}

pub returns-in-Begin : goal.returns-in-Begin
returns-in-Begin c read = now_at (view_state read c.args.state.value) M.begin (λ (m : M.State). GivesState read c.args.token.start c.next_rule.result (M.step m c.args.token.kind (read c.args.token.leaf))) (ap (view_state read) (sym c.into_inner.ensures ∙ c.in-Begin.is)) (begin_next read c.args.token.start c.args.token.kind (read c.args.token.leaf) c.next_rule.result c.new.result.items c.new.ensures.items (c.next_rule.ensures read))

pub returns-in-WantParm : goal.returns-in-WantParm
returns-in-WantParm c read = now_at (view_state read c.args.state.value) (M.awaits_parm (view_rules read c.in-WantParm.rules.items) (read c.in-WantParm.opening) (view_parameters read c.in-WantParm.before)) (λ (m : M.State). GivesState read c.args.token.start c.parameter.result (M.step m c.args.token.kind (read c.args.token.leaf))) (ap (view_state read) (sym c.into_inner.ensures ∙ c.in-WantParm.is)) (c.parameter.ensures read)

pub returns-in-HaveParm : goal.returns-in-HaveParm
returns-in-HaveParm c read = now_at (view_state read c.args.state.value) (M.have_parm (view_rules read c.in-HaveParm.rules.items) (read c.in-HaveParm.opening) (view_parm read c.in-HaveParm.parameters)) (λ (m : M.State). GivesState read c.args.token.start c.after_parm.result (M.step m c.args.token.kind (read c.args.token.leaf))) (ap (view_state read) (sym c.into_inner.ensures ∙ c.in-HaveParm.is)) (c.after_parm.ensures read)

pub returns-in-WantAssign : goal.returns-in-WantAssign
returns-in-WantAssign c read = now_at (view_state read c.args.state.value) (M.awaits_assign (view_rules read c.in-WantAssign.rules.items) (view_name read c.in-WantAssign.name)) (λ (m : M.State). GivesState read c.args.token.start c.after_name.result (M.step m c.args.token.kind (read c.args.token.leaf))) (ap (view_state read) (sym c.into_inner.ensures ∙ c.in-WantAssign.is)) (c.after_name.ensures read)

pub returns-in-Body : goal.returns-in-Body
returns-in-Body c read = on_through (view_state read c.args.state.value) (view_now read (below read (view_rules read c.in-Body.rules.items) c.in-Body.frames.items) c.in-Body.now.value) (λ (m : M.State). GivesState read c.args.token.start c.in_body.result (M.step m c.args.token.kind (read c.args.token.leaf))) (λ (m : M.State). GivesState read c.args.token.start c.in_body.result (M.step m c.args.token.kind (read c.args.token.leaf))) (ap (view_state read) (sym c.into_inner.ensures ∙ c.in-Body.is)) (λ m h. h) (c.in_body.ensures read)

pub returns-in-Done : goal.returns-in-Done
returns-in-Done c read = now_at (view_state read c.args.state.value) _ (λ (m : M.State). Refused c.args.token.start c.unexpected.result (M.step m c.args.token.kind (read c.args.token.leaf))) (ap (view_state read) (sym c.into_inner.ensures ∙ c.in-Done.is)) (refuses c.args.token.start _ _ c.unexpected.ensures refl)
