use Rattle.tree_nodes.specs.Syntax.Machine as M
use Rattle.cddl_tree.specs.Frames.{view_at_type2, Gives}
use Rattle.cddl_tree.proofs.Steps.{on_all, on_same, refuses}
use Rattle.cddl_tree.proofs.Elsewhere.{closed, not_closed, got_as}
use Rattle.std.proofs.Common.{sym, ◌∙◌}
use Rattle.cddl_tree.proofs.brackets.shut_within.Goals as goal

pub returns-then-closes : goal.returns-then-closes
returns-then-closes c read rs b = on_same (view_at_type2 read b c.args.at) (λ (m : M.State). Gives read c.args.token rs b c.have_type2.result m) _ _ (λ k. closed k _ _ _ (read c.args.token.leaf) (sym (c.closes.ensures read) ∙ c.if-closes.true)) (got_as (view_at_type2 read b c.args.at) _ _ (λ (m : M.State). Gives read c.args.token rs b c.have_type2.result m) (c.in_brackets.ensures read) (c.have_type2.ensures read c.args.token rs b))

pub returns-else-closes : goal.returns-else-closes
returns-else-closes c read rs b = on_all (view_at_type2 read b c.args.at) _ (λ k. refuses c.args.token.start _ _ c.unexpected.ensures (not_closed k _ _ _ (read c.args.token.leaf) (sym (c.closes.ensures read) ∙ c.if-closes.false)))
