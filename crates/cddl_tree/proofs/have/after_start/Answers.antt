use Rattle.std.proofs.Common.{◌∙◌, ap, sym}
use Rattle.tree_nodes.specs.Syntax.Syntax as S
use Rattle.tree_nodes.specs.Syntax.Machine as M
use Rattle.cddl_token.specs.declared.Kind.{Kind}
use Rattle.tree_nodes.specs.View.{leaf, view_types}
use Rattle.tree_nodes.proofs.Lemmas.{view-Typed}
use Rattle.cddl_tree.proofs.have.after_start.Goals as goal
use Rattle.cddl_tree.proofs.Steps.{refused_on, on_kind, on_same}
use Rattle.cddl_tree.specs.Frames.{below, as_entry, Gives, Refused}
use Rattle.cddl_tree.proofs.Heads.{start_other, cut_taken, cut_several}

pub returns-in-Arrow : goal.returns-in-Arrow
returns-in-Arrow c read rs = on_kind (as_entry (below read rs c.args.frames.now.items)) (λ (m : M.State). Gives read c.args.token rs (below read rs c.args.frames.now.items) c.arrow.result m) (λ (p : M.AtEntry) (i : Kind). M.after_start p (leaf read c.args.occur) (view_types read c.args.types) i (read c.args.token.leaf)) _ _ c.in-Arrow.is (c.arrow.ensures read rs (below read rs c.args.frames.now.items))

pub returns-in-Ok : goal.returns-in-Ok
returns-in-Ok c read rs = on_kind (as_entry (below read rs c.args.frames.now.items)) (λ (m : M.State). Gives read c.args.token rs (below read rs c.args.frames.now.items) c.want_arrow.result m) (λ (p : M.AtEntry) (i : Kind). M.after_start p (leaf read c.args.occur) (view_types read c.args.types) i (read c.args.token.leaf)) _ _ c.in-Cut.is (cut_taken (as_entry (below read rs c.args.frames.now.items)) (λ (m : M.State). Gives read c.args.token rs (below read rs c.args.frames.now.items) c.want_arrow.result m) (leaf read c.args.occur) _ _ (read c.args.token.leaf) (c.in-Ok.ensures.sole read) (c.want_arrow.ensures read c.args.token rs (below read rs c.args.frames.now.items)))

pub returns-in-Err : goal.returns-in-Err
returns-in-Err c read rs = on_kind (as_entry (below read rs c.args.frames.now.items)) (λ (m : M.State). Refused c.args.token.start c.unexpected.result m) (λ (p : M.AtEntry) (i : Kind). M.after_start p (leaf read c.args.occur) (view_types read c.args.types) i (read c.args.token.leaf)) _ _ c.in-Cut.is (refused_on (as_entry (below read rs c.args.frames.now.items)) c.args.token.start _ _ c.unexpected.ensures (λ p. cut_several p _ _ (read c.args.token.leaf) (c.in-Err.ensures.several read)))

pub returns-in-Colon : goal.returns-in-Colon
returns-in-Colon c read rs = on_kind (as_entry (below read rs c.args.frames.now.items)) (λ (m : M.State). Gives read c.args.token rs (below read rs c.args.frames.now.items) c.colon.result m) (λ (p : M.AtEntry) (i : Kind). M.after_start p (leaf read c.args.occur) (view_types read c.args.types) i (read c.args.token.leaf)) _ _ c.in-Colon.is (c.colon.ensures read rs (below read rs c.args.frames.now.items))

pub returns-in_default : goal.returns-in_default
returns-in_default c read rs = on_same (as_entry (below read rs c.args.frames.now.items)) (λ (m : M.State). Gives read c.args.token rs (below read rs c.after_entry.new.frames.items) c.after_entry.result m) _ _ (λ p. start_other p _ _ _ (read c.args.token.leaf) c.in_default.not-Arrow c.in_default.not-Cut c.in_default.not-Colon ∙ ap (λ (e : S.GrpEnt). M.after_entry p e c.args.token.kind (read c.args.token.leaf)) (sym (view-Typed read _ _))) (c.after_entry.ensures read rs)
