use Rattle.std.proofs.Common.{ap}
use Rattle.tree_nodes.specs.Syntax.Machine as M
use Rattle.cddl_tree.specs.Frames.{view_at_type2, view_type_opening, Gives}
use Rattle.cddl_tree.proofs.Steps.{refused_on, on_same, paren_shut, tag_shut, content_shut, no_parens}
use Rattle.tree_nodes.proofs.Lemmas.{view-Parens, view-Tagged, view-TaggedBy}
use Rattle.cddl_tree.proofs.have.shut_parens.Goals as goal

pub returns-in-Paren : goal.returns-in-Paren
returns-in-Paren c read rs b = on_same (view_at_type2 read b c.args.at) (λ (m : M.State). Gives read c.args.token rs b c.have_type2.result m) _ _ (paren_shut _ _ _ (read c.args.token.leaf) _ (ap (view_type_opening read) c.in-Paren.is) (view-Parens read _ _ _)) (c.have_type2.ensures read c.args.token rs b)

pub returns-in-Tag : goal.returns-in-Tag
returns-in-Tag c read rs b = on_same (view_at_type2 read b c.args.at) (λ (m : M.State). Gives read c.args.token rs b c.have_type2-in-Tag.result m) _ _ (tag_shut _ _ _ (read c.args.token.leaf) _ (ap (view_type_opening read) c.in-Tag.is) (view-Tagged read _ _ _)) (c.have_type2-in-Tag.ensures read c.args.token rs b)

pub returns-in-TagContent : goal.returns-in-TagContent
returns-in-TagContent c read rs b = on_same (view_at_type2 read b c.args.at) (λ (m : M.State). Gives read c.args.token rs b c.have_type2-in-TagContent.result m) _ _ (content_shut _ _ _ _ _ _ (read c.args.token.leaf) _ (ap (view_type_opening read) c.in-TagContent.is) (view-TaggedBy read _ _ _ _ _ _)) (c.have_type2-in-TagContent.ensures read c.args.token rs b)

pub returns-in_default : goal.returns-in_default
returns-in_default c read rs b = refused_on (view_at_type2 read b c.args.at) c.args.token.start _ _ c.unexpected.ensures (no_parens read _ _ (read c.args.token.leaf) c.in_default.not-Paren c.in_default.not-Tag c.in_default.not-TagContent)
