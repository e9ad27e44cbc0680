use Rattle.cddl_token.specs.declared.Kind.{Kind}
use Rattle.tree_nodes.specs.Syntax.Machine as M
use Rattle.tree_nodes.specs.View.{view_types}
use Rattle.cddl_tree.proofs.body.step_content.Goals as goal
use Rattle.cddl_tree.specs.Frames.{below, view_at_type2, Gives}
use Rattle.cddl_tree.proofs.Bodies.{at_kind, refused_at, content_other}

pub returns-in-ParenOpen : goal.returns-in-ParenOpen
returns-in-ParenOpen c read rs = at_kind (view_at_type2 read (below read rs c.args.frames.now.items) c.args.at) (λ (m : M.State). Gives read c.args.token rs (below read rs c.open_inside.new.frames.items) c.open_inside.result m) (λ (k : M.AtType2) (i : Kind). M.step (M.want_content k (read c.args.opening) (view_types read c.args.head.value) (read c.args.angle)) i (read c.args.token.leaf)) _ _ c.in-ParenOpen.is (c.open_inside.ensures read c.args.token rs)

pub returns-in_default : goal.returns-in_default
returns-in_default c read rs = refused_at (view_at_type2 read (below read rs c.args.frames.now.items) c.args.at) c.args.token.start _ (λ (k : M.AtType2). M.step (M.want_content k (read c.args.opening) (view_types read c.args.head.value) (read c.args.angle)) c.args.token.kind (read c.args.token.leaf)) c.unexpected.ensures (λ k. content_other k _ _ _ _ (read c.args.token.leaf) c.in_default.not-ParenOpen)
