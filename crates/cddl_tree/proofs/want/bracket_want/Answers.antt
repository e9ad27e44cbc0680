use Rattle.cddl_token.specs.declared.Kind.{Kind}
use Rattle.tree_nodes.specs.Syntax.Machine as M
use Rattle.cddl_tree.proofs.want.bracket_want.Goals as goal
use Rattle.cddl_tree.specs.Frames.{below, view_at_type2, Gives}
use Rattle.cddl_tree.proofs.Heads.{on_along}
use Rattle.cddl_tree.proofs.Bodies.{at_kind, want_ends}

pub returns-in-BraceOpen : goal.returns-in-BraceOpen
returns-in-BraceOpen c read rs = at_kind (view_at_type2 read (below read rs c.args.frames.now.items) c.args.at) (λ (m : M.State). Gives read c.args.token rs (below read rs c.open_group.new.frames.items) c.open_group.result m) (λ (k : M.AtType2) (i : Kind). M.step_want k i (read c.args.token.leaf)) _ _ c.in-BraceOpen.is (c.open_group.ensures read c.args.token rs)

pub returns-in-BracketOpen : goal.returns-in-BracketOpen
returns-in-BracketOpen c read rs = at_kind (view_at_type2 read (below read rs c.args.frames.now.items) c.args.at) (λ (m : M.State). Gives read c.args.token rs (below read rs c.open_group-in-BracketOpen.new.frames.items) c.open_group-in-BracketOpen.result m) (λ (k : M.AtType2) (i : Kind). M.step_want k i (read c.args.token.leaf)) _ _ c.in-BracketOpen.is (c.open_group-in-BracketOpen.ensures read c.args.token rs)

pub returns-in-TagOpen : goal.returns-in-TagOpen
returns-in-TagOpen c read rs = at_kind (view_at_type2 read (below read rs c.args.frames.now.items) c.args.at) (λ (m : M.State). Gives read c.args.token rs (below read rs c.open_inside.new.frames.items) c.open_inside.result m) (λ (k : M.AtType2) (i : Kind). M.step_want k i (read c.args.token.leaf)) _ _ c.in-TagOpen.is (c.open_inside.ensures read c.args.token rs)

pub returns-in-TagHeadOpen : goal.returns-in-TagHeadOpen
returns-in-TagHeadOpen c read rs = at_kind (view_at_type2 read (below read rs c.args.frames.now.items) c.args.at) (λ (m : M.State). Gives read c.args.token rs (below read rs c.open_inside-in-TagHeadOpen.new.frames.items) c.open_inside-in-TagHeadOpen.result m) (λ (k : M.AtType2) (i : Kind). M.step_want k i (read c.args.token.leaf)) _ _ c.in-TagHeadOpen.is (c.open_inside-in-TagHeadOpen.ensures read c.args.token rs)

pub returns-in-SimpleHeadOpen : goal.returns-in-SimpleHeadOpen
returns-in-SimpleHeadOpen c read rs = at_kind (view_at_type2 read (below read rs c.args.frames.now.items) c.args.at) (λ (m : M.State). Gives read c.args.token rs (below read rs c.open_inside-in-SimpleHeadOpen.new.frames.items) c.open_inside-in-SimpleHeadOpen.result m) (λ (k : M.AtType2) (i : Kind). M.step_want k i (read c.args.token.leaf)) _ _ c.in-SimpleHeadOpen.is (c.open_inside-in-SimpleHeadOpen.ensures read c.args.token rs)

pub returns-in_default : goal.returns-in_default
returns-in_default c read rs = on_along (view_at_type2 read (below read rs c.args.frames.now.items) c.args.at) (λ (m : M.State). Gives read c.args.token rs (below read rs c.ends_want.new.frames.items) c.ends_want.result m) (λ (k : M.AtType2). M.step_want k c.args.token.kind (read c.args.token.leaf)) (λ (k : M.AtType2). M.ends_want k c.args.token.kind (read c.args.token.leaf)) (λ k. want_ends k c.args.token.kind (read c.args.token.leaf) c.requires c.in_default.not-BraceOpen c.in_default.not-BracketOpen c.in_default.not-TagOpen c.in_default.not-TagHeadOpen c.in_default.not-SimpleHeadOpen) (c.ends_want.ensures read rs)
