use Rattle.cddl_token.specs.declared.Kind.TheVariants.{Ampersand, AngleClose, BraceClose, BraceOpen, BracketClose, BracketOpen, Hash, ParenClose, ParenOpen, SimpleHeadOpen, TagHeadOpen, TagOpen, Tilde}
use Rattle.std.proofs.Common.{◌∷◌}
use Rattle.tree_nodes.specs.Syntax.Syntax as S
use Rattle.tree_nodes.specs.View.{view_group, view_types, token_of}
use Rattle.tree_nodes.proofs.Lemmas.{views}
use Rattle.source_pieces.proofs.Ending.{alone, behind, behind_one}
use Rattle.source_pieces.proofs.span.type2_end.Goals as goal

pub returns-in-Literal : goal.returns-in-Literal
returns-in-Literal c = simp (c.in-Literal.is, views) c.value_end.ensures

pub returns-in-Typename : goal.returns-in-Typename
returns-in-Typename c = simp (c.in-Typename.is, views) c.ref_end.ensures

pub returns-in-Parens : goal.returns-in-Parens
returns-in-Parens c =
    let read = token_of c.args.tree.now in
    simp (c.in-Parens.is, views)
    (behind ((ParenOpen, read c.in-Parens.opening) ∷ S.flat_types (view_types read c.in-Parens.types.value)) (alone (ParenClose, read c.in-Parens.closing) _ c.end_of.ensures))

pub returns-in-MapOf : goal.returns-in-MapOf
returns-in-MapOf c =
    let read = token_of c.args.tree.now in
    simp (c.in-MapOf.is, views)
    (behind ((BraceOpen, read c.in-MapOf.opening) ∷ S.flat_group (view_group read c.in-MapOf.group)) (alone (BraceClose, read c.in-MapOf.closing) _ c.end_of-in-MapOf.ensures))

pub returns-in-ArrayOf : goal.returns-in-ArrayOf
returns-in-ArrayOf c =
    let read = token_of c.args.tree.now in
    simp (c.in-ArrayOf.is, views)
    (behind ((BracketOpen, read c.in-ArrayOf.opening) ∷ S.flat_group (view_group read c.in-ArrayOf.group)) (alone (BracketClose, read c.in-ArrayOf.closing) _ c.end_of-in-ArrayOf.ensures))

pub returns-in-Unwrapped : goal.returns-in-Unwrapped
returns-in-Unwrapped c =
    let read = token_of c.args.tree.now in
    simp (c.in-Unwrapped.is, views) (behind_one (Tilde, read c.in-Unwrapped.tilde) c.ref_end-in-Unwrapped.ensures)

pub returns-in-ChoiceOf : goal.returns-in-ChoiceOf
returns-in-ChoiceOf c =
    let read = token_of c.args.tree.now in
    simp (c.in-ChoiceOf.is, views)
    (behind ((Ampersand, read c.in-ChoiceOf.ampersand) ∷ (ParenOpen, read c.in-ChoiceOf.opening) ∷ S.flat_group (view_group read c.in-ChoiceOf.group)) (alone (ParenClose, read c.in-ChoiceOf.closing) _ c.end_of-in-ChoiceOf.ensures))

pub returns-in-ChoiceOfName : goal.returns-in-ChoiceOfName
returns-in-ChoiceOfName c =
    let read = token_of c.args.tree.now in
    simp (c.in-ChoiceOfName.is, views) (behind_one (Ampersand, read c.in-ChoiceOfName.ampersand) c.ref_end-in-ChoiceOfName.ensures)

pub returns-in-Tagged : goal.returns-in-Tagged
returns-in-Tagged c =
    let read = token_of c.args.tree.now in
    simp (c.in-Tagged.is, views)
    (behind ((TagOpen, read c.in-Tagged.opening) ∷ S.flat_types (view_types read c.in-Tagged.types.value)) (alone (ParenClose, read c.in-Tagged.closing) _ c.end_of-in-Tagged.ensures))

pub returns-in-TaggedBy : goal.returns-in-TaggedBy
returns-in-TaggedBy c =
    let read = token_of c.args.tree.now in
    simp (c.in-TaggedBy.is, views)
    (behind ((TagHeadOpen, read c.in-TaggedBy.opening) ∷ S.flat_types (view_types read c.in-TaggedBy.head.value))
    (behind ((AngleClose, read c.in-TaggedBy.angle) ∷ (ParenOpen, read c.in-TaggedBy.paren) ∷ S.flat_types (view_types read c.in-TaggedBy.types.value)) (alone (ParenClose, read c.in-TaggedBy.closing) _ c.end_of-in-TaggedBy.ensures)))

pub returns-in-SimpleBy : goal.returns-in-SimpleBy
returns-in-SimpleBy c =
    let read = token_of c.args.tree.now in
    simp (c.in-SimpleBy.is, views)
    (behind ((SimpleHeadOpen, read c.in-SimpleBy.opening) ∷ S.flat_types (view_types read c.in-SimpleBy.head.value)) (alone (AngleClose, read c.in-SimpleBy.closing) _ c.end_of-in-SimpleBy.ensures))

pub returns-in-Hash : goal.returns-in-Hash
returns-in-Hash c =
    let read = token_of c.args.tree.now in
    simp (c.in-Hash.is, views) (alone (Hash, read c.in-Hash.token) _ c.end_of-in-Hash.ensures)
