use Rattle.std.proofs.Common.{◌∙◌, ap, sym}
use Rattle.tree_nodes.specs.Syntax.Machine as M
use Rattle.tree_nodes.specs.View.{leaf, view_type1, view_types, view_grpent}
use Rattle.cddl_tree.proofs.body.step_body.Goals as goal
use Rattle.cddl_tree.specs.Frames.{below, as_entry, view_now, view_at_type1, view_at_type2, view_prefix, Gives}
use Rattle.cddl_tree.proofs.Bodies.{now_made}

pub returns-in-Want : goal.returns-in-Want
returns-in-Want c read rs = now_made M.want (view_at_type2 read (below read rs c.args.frames.now.items) c.in-Want.at) (view_now read (below read rs c.args.frames.now.items) c.args.now.value) (λ (m : M.State). Gives read c.args.token rs (below read rs c.step_want.new.frames.items) c.step_want.result (M.step m c.args.token.kind (read c.args.token.leaf))) (ap (view_now read (below read rs c.args.frames.now.items)) (sym c.into_inner.ensures ∙ c.in-Want.is)) (c.step_want.ensures read rs)

pub returns-in-WantRef : goal.returns-in-WantRef
returns-in-WantRef c read rs = now_made (λ (k : M.AtType2). M.want_ref k (view_prefix read c.in-WantRef.prefix)) (view_at_type2 read (below read rs c.args.frames.now.items) c.in-WantRef.at) (view_now read (below read rs c.args.frames.now.items) c.args.now.value) (λ (m : M.State). Gives read c.args.token rs (below read rs c.step_want_ref.new.frames.items) c.step_want_ref.result (M.step m c.args.token.kind (read c.args.token.leaf))) (ap (view_now read (below read rs c.args.frames.now.items)) (sym c.into_inner.ensures ∙ c.in-WantRef.is)) (c.step_want_ref.ensures read rs)

pub returns-in-WantContent : goal.returns-in-WantContent
returns-in-WantContent c read rs = now_made (λ (k : M.AtType2). M.want_content k (read c.in-WantContent.opening) (view_types read c.in-WantContent.head.value) (read c.in-WantContent.angle)) (view_at_type2 read (below read rs c.args.frames.now.items) c.in-WantContent.at) (view_now read (below read rs c.args.frames.now.items) c.args.now.value) (λ (m : M.State). Gives read c.args.token rs (below read rs c.step_content.new.frames.items) c.step_content.result (M.step m c.args.token.kind (read c.args.token.leaf))) (ap (view_now read (below read rs c.args.frames.now.items)) (sym c.into_inner.ensures ∙ c.in-WantContent.is)) (c.step_content.ensures read rs)

pub returns-in-Have : goal.returns-in-Have
returns-in-Have c read rs = now_made (λ (k : M.AtType1). M.have k (view_type1 read c.in-Have.type1.value)) (view_at_type1 read (below read rs c.args.frames.now.items) c.in-Have.at.value) (view_now read (below read rs c.args.frames.now.items) c.args.now.value) (λ (m : M.State). Gives read c.args.token rs (below read rs c.step_have.new.frames.items) c.step_have.result (M.step m c.args.token.kind (read c.args.token.leaf))) (ap (view_now read (below read rs c.args.frames.now.items)) (sym c.into_inner.ensures ∙ c.in-Have.is)) (c.step_have.ensures read rs)

pub returns-in-WantArrow : goal.returns-in-WantArrow
returns-in-WantArrow c read rs = now_made (λ (p : M.AtEntry). M.want_arrow p (leaf read c.in-WantArrow.occur) (view_type1 read c.in-WantArrow.type1.value) (read c.in-WantArrow.cut)) (as_entry (below read rs c.args.frames.now.items)) (view_now read (below read rs c.args.frames.now.items) c.args.now.value) (λ (m : M.State). Gives read c.args.token rs (below read rs c.args.frames.now.items) c.step_arrow.result (M.step m c.args.token.kind (read c.args.token.leaf))) (ap (view_now read (below read rs c.args.frames.now.items)) (sym c.into_inner.ensures ∙ c.in-WantArrow.is)) (c.step_arrow.ensures read rs (below read rs c.args.frames.now.items))

pub returns-in-HaveGroup : goal.returns-in-HaveGroup
returns-in-HaveGroup c read rs = now_made (λ (p : M.AtEntry). M.have_group p (view_grpent read c.in-HaveGroup.grpent.value)) (as_entry (below read rs c.args.frames.now.items)) (view_now read (below read rs c.args.frames.now.items) c.args.now.value) (λ (m : M.State). Gives read c.args.token rs (below read rs c.after_group.new.frames.items) c.after_group.result (M.step m c.args.token.kind (read c.args.token.leaf))) (ap (view_now read (below read rs c.args.frames.now.items)) (sym c.into_inner.ensures ∙ c.in-HaveGroup.is)) (c.after_group.ensures read rs)
