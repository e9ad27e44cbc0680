use Rattle.cddl_token.specs.declared.Kind.{Kind}
use Rattle.tree_nodes.specs.Syntax.Machine as M
use Rattle.tree_nodes.specs.View.{view_type1}
use Rattle.cddl_tree.proofs.have.step_have.Goals as goal
use Rattle.cddl_tree.specs.Frames.{below, view_at_type1, Gives}
use Rattle.cddl_tree.proofs.Steps.{on_same}
use Rattle.cddl_tree.proofs.Heads.{on_along, have_other}
use Rattle.cddl_tree.proofs.Bodies.{at_kind}

pub returns-in-Some : goal.returns-in-Some
returns-in-Some c read rs = on_same (view_at_type1 read (below read rs c.args.frames.now.items) c.args.at.value) (λ (m : M.State). Gives read c.args.token rs (below read rs c.args.frames.now.items) c.want_operand.result m) _ _ (λ k. (c.in-Some.ensures read) k (view_type1 read c.args.type1.value)) (c.want_operand.ensures read rs (below read rs c.args.frames.now.items))

pub returns-in-Slash : goal.returns-in-Slash
returns-in-Slash c read rs = at_kind (view_at_type1 read (below read rs c.args.frames.now.items) c.args.at.value) (λ (m : M.State). Gives read c.args.token rs (below read rs c.args.frames.now.items) c.slash.result m) (λ (k : M.AtType1) (i : Kind). M.step_have k (view_type1 read c.args.type1.value) i (read c.args.token.leaf)) _ _ c.in-Slash.is (c.slash.ensures read rs (below read rs c.args.frames.now.items))

pub returns-in_default : goal.returns-in_default
returns-in_default c read rs = on_along (view_at_type1 read (below read rs c.args.frames.now.items) c.args.at.value) (λ (m : M.State). Gives read c.args.token rs (below read rs c.after_type1.new.frames.items) c.after_type1.result m) (λ (k : M.AtType1). M.step_have k (view_type1 read c.args.type1.value) c.args.token.kind (read c.args.token.leaf)) (λ (k : M.AtType1). M.after_type1 k (view_type1 read c.args.type1.value) c.args.token.kind (read c.args.token.leaf)) (λ k. have_other k (view_type1 read c.args.type1.value) c.args.token.kind (read c.args.token.leaf) c.in-None.ensures c.in_default.not-Slash) (c.after_type1.ensures read rs)
