use Rattle.std.proofs.Common.{◌∙◌, ap, refl}
use Rattle.cddl_token.specs.declared.Kind.{Kind}
use Rattle.tree_nodes.specs.Syntax.Machine as M
use Rattle.tree_nodes.proofs.Lemmas.{view-Name}
use Rattle.cddl_tree.specs.declared.frames.Prefix.{Prefix}
use Rattle.cddl_tree.proofs.want.step_want_ref.Goals as goal
use Rattle.cddl_tree.specs.Frames.{below, view_at_type2, view_prefix, Gives}
use Rattle.cddl_tree.proofs.Heads.{on_along, ref_other}
use Rattle.cddl_tree.proofs.Bodies.{at_kind, got_at, refused_at, no_choice}

pub returns-in-Name : goal.returns-in-Name
returns-in-Name c read rs = got_at (view_at_type2 read (below read rs c.args.frames.now.items) c.args.at) (λ (m : M.State). Gives read c.args.token rs (below read rs c.args.frames.now.items) c.have_type2.result m) (λ (k : M.AtType2) (i : Kind). M.step_want_ref k (view_prefix read c.args.prefix) i (read c.args.token.leaf)) _ _ _ _ c.in-Name.is (c.type2_of.ensures read ∙ ap (M.prefixed (view_prefix read c.args.prefix)) (view-Name read c.args.token.leaf)) (λ k. refl) (c.have_type2.ensures read c.args.token rs (below read rs c.args.frames.now.items))

pub returns-in-NameOpen : goal.returns-in-NameOpen
returns-in-NameOpen c read rs = at_kind (view_at_type2 read (below read rs c.args.frames.now.items) c.args.at) (λ (m : M.State). Gives read c.args.token rs (below read rs c.open_reference.new.frames.items) c.open_reference.result m) (λ (k : M.AtType2) (i : Kind). M.step_want_ref k (view_prefix read c.args.prefix) i (read c.args.token.leaf)) _ _ c.in-NameOpen.is (c.open_reference.ensures read c.args.token rs)

pub returns-in-Ampersand : goal.returns-in-Ampersand
returns-in-Ampersand c read rs = on_along (view_at_type2 read (below read rs c.args.frames.now.items) c.args.at) (λ (m : M.State). Gives read c.args.token rs (below read rs c.open_group.new.frames.items) c.open_group.result m) (λ (k : M.AtType2). M.step_want_ref k (view_prefix read c.args.prefix) c.args.token.kind (read c.args.token.leaf)) (λ (k : M.AtType2). M.open_group (M.within k (M.choice (read c.in-Ampersand.ampersand) (read c.args.token.leaf)))) (λ k. ap (λ (i : Kind). M.step_want_ref k (view_prefix read c.args.prefix) i (read c.args.token.leaf)) c.in-ParenOpen.is ∙ ap (λ (p : Prefix). M.open_choice k (view_prefix read p) (read c.args.token.leaf)) c.in-Ampersand.is) (c.open_group.ensures read c.args.token rs)

pub returns-in_default-prefix : goal.returns-in_default-prefix
returns-in_default-prefix c read rs = refused_at (view_at_type2 read (below read rs c.args.frames.now.items) c.args.at) c.args.token.start _ (λ (k : M.AtType2). M.step_want_ref k (view_prefix read c.args.prefix) c.args.token.kind (read c.args.token.leaf)) c.unexpected.ensures (λ k. ap (λ (i : Kind). M.step_want_ref k (view_prefix read c.args.prefix) i (read c.args.token.leaf)) c.in-ParenOpen.is ∙ no_choice read k c.args.prefix (read c.args.token.leaf) c.in_default-prefix.not-Ampersand)

pub returns-in_default : goal.returns-in_default
returns-in_default c read rs = refused_at (view_at_type2 read (below read rs c.args.frames.now.items) c.args.at) c.args.token.start _ (λ (k : M.AtType2). M.step_want_ref k (view_prefix read c.args.prefix) c.args.token.kind (read c.args.token.leaf)) c.unexpected-in_default.ensures (λ k. ref_other k (view_prefix read c.args.prefix) c.args.token.kind (read c.args.token.leaf) c.in_default.not-Name c.in_default.not-NameOpen c.in_default.not-ParenOpen)
