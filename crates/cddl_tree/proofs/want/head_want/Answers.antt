use Rattle.cddl_token.specs.declared.Kind.{Kind}
use Rattle.tree_nodes.specs.Syntax.Machine as M
use Rattle.cddl_tree.proofs.want.head_want.Goals as goal
use Rattle.cddl_tree.specs.Frames.{below, view_at_type2, Gives}
use Rattle.cddl_tree.proofs.Bodies.{at_kind, no_head}

pub returns-in-NameOpen : goal.returns-in-NameOpen
returns-in-NameOpen c read rs = at_kind (view_at_type2 read (below read rs c.args.frames.now.items) c.args.at) (λ (m : M.State). Gives read c.args.token rs (below read rs c.open_reference.new.frames.items) c.open_reference.result m) (λ (k : M.AtType2) (i : Kind). M.step_want k i (read c.args.token.leaf)) _ _ c.in-NameOpen.is (c.open_reference.ensures read c.args.token rs)

pub returns-in-Tilde : goal.returns-in-Tilde
returns-in-Tilde c read rs = at_kind (view_at_type2 read (below read rs c.args.frames.now.items) c.args.at) (λ (m : M.State). Gives read c.args.token rs (below read rs c.args.frames.now.items) c.want_ref.result m) (λ (k : M.AtType2) (i : Kind). M.step_want k i (read c.args.token.leaf)) _ _ c.in-Tilde.is (c.want_ref.ensures read c.args.token rs (below read rs c.args.frames.now.items))

pub returns-in-Ampersand : goal.returns-in-Ampersand
returns-in-Ampersand c read rs = at_kind (view_at_type2 read (below read rs c.args.frames.now.items) c.args.at) (λ (m : M.State). Gives read c.args.token rs (below read rs c.args.frames.now.items) c.want_ref-in-Ampersand.result m) (λ (k : M.AtType2) (i : Kind). M.step_want k i (read c.args.token.leaf)) _ _ c.in-Ampersand.is (c.want_ref-in-Ampersand.ensures read c.args.token rs (below read rs c.args.frames.now.items))

pub returns-in-ParenOpen : goal.returns-in-ParenOpen
returns-in-ParenOpen c read rs = at_kind (view_at_type2 read (below read rs c.args.frames.now.items) c.args.at) (λ (m : M.State). Gives read c.args.token rs (below read rs c.open_paren.new.frames.items) c.open_paren.result m) (λ (k : M.AtType2) (i : Kind). M.step_want k i (read c.args.token.leaf)) _ _ c.in-ParenOpen.is (c.open_paren.ensures read c.args.token rs)

pub returns-in-Occur : goal.returns-in-Occur
returns-in-Occur c read rs = at_kind (view_at_type2 read (below read rs c.args.frames.now.items) c.args.at) (λ (m : M.State). Gives read c.args.token rs (below read rs c.args.frames.now.items) c.occur_want.result m) (λ (k : M.AtType2) (i : Kind). M.step_want k i (read c.args.token.leaf)) _ _ c.in-Occur.is (c.occur_want.ensures read rs (below read rs c.args.frames.now.items))

pub bracket_want-requires : goal.bracket_want-requires
bracket_want-requires c = no_head c.args.token.kind c.requires c.in_default.not-NameOpen c.in_default.not-Tilde c.in_default.not-Ampersand c.in_default.not-ParenOpen c.in_default.not-Occur

pub returns-in_default : goal.returns-in_default
returns-in_default c read rs = c.bracket_want.ensures read rs
