use Rattle.tree_nodes.proofs.Lemmas.{views}
use Rattle.std.proofs.Common.{Some, ap, refl}
use Rattle.source_pieces.proofs.names.type2_name.Goals as goal

pub returns-in-Typename : goal.returns-in-Typename
returns-in-Typename c = simp (c.in-Typename.is, views) (ap Some c.called.ensures)

pub returns-in-Literal : goal.returns-in-Literal
returns-in-Literal c = simp (c.in-Literal.is, views) refl

pub returns-in-Parens : goal.returns-in-Parens
returns-in-Parens c = simp (c.in-Parens.is, views) refl

pub returns-in-MapOf : goal.returns-in-MapOf
returns-in-MapOf c = simp (c.in-MapOf.is, views) refl

pub returns-in-ArrayOf : goal.returns-in-ArrayOf
returns-in-ArrayOf c = simp (c.in-ArrayOf.is, views) refl

pub returns-in-Unwrapped : goal.returns-in-Unwrapped
returns-in-Unwrapped c = simp (c.in-Unwrapped.is, views) (ap Some c.called-in-Unwrapped.ensures)

pub returns-in-ChoiceOf : goal.returns-in-ChoiceOf
returns-in-ChoiceOf c = simp (c.in-ChoiceOf.is, views) refl

pub returns-in-ChoiceOfName : goal.returns-in-ChoiceOfName
returns-in-ChoiceOfName c = simp (c.in-ChoiceOfName.is, views) refl

pub returns-in-Tagged : goal.returns-in-Tagged
returns-in-Tagged c = simp (c.in-Tagged.is, views) refl

pub returns-in-TaggedBy : goal.returns-in-TaggedBy
returns-in-TaggedBy c = simp (c.in-TaggedBy.is, views) refl

pub returns-in-SimpleBy : goal.returns-in-SimpleBy
returns-in-SimpleBy c = simp (c.in-SimpleBy.is, views) refl

pub returns-in-Hash : goal.returns-in-Hash
returns-in-Hash c = simp (c.in-Hash.is, views) refl
