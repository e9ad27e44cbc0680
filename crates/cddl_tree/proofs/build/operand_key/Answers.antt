use Rattle.std.proofs.Common.{◌∙◌, ap}
use Rattle.tree_nodes.specs.Syntax.Syntax as S
use Rattle.tree_nodes.specs.View.{view_type2}
use Rattle.tree_nodes.proofs.Lemmas.{view-Typename}
use Rattle.cddl_tree.proofs.Pushing.{views}
use Rattle.cddl_tree.proofs.Contents.{along_key}
use Rattle.cddl_tree.proofs.build.operand_key.Goals as goal

pub returns-in-Typename : goal.returns-in-Typename
returns-in-Typename c read = along_key read _ _ _ (read c.args.colon) (ap S.one (ap (view_type2 read) c.in-Typename.is ∙ view-Typename read _)) (c.name_key.ensures read)

pub returns-in-Literal : goal.returns-in-Literal
returns-in-Literal c read p oc = simp (c.in-Literal.is, views)

pub returns-in-Hash : goal.returns-in-Hash
returns-in-Hash c read p oc = simp (c.in-Hash.is, views)

pub returns-in-Unwrapped : goal.returns-in-Unwrapped
returns-in-Unwrapped c read p oc = simp (c.in-Unwrapped.is, views)

pub returns-in-ChoiceOfName : goal.returns-in-ChoiceOfName
returns-in-ChoiceOfName c read p oc = simp (c.in-ChoiceOfName.is, views)

pub returns-in-MapOf : goal.returns-in-MapOf
returns-in-MapOf c read p oc = simp (c.in-MapOf.is, views)

pub returns-in-ArrayOf : goal.returns-in-ArrayOf
returns-in-ArrayOf c read p oc = simp (c.in-ArrayOf.is, views)

pub returns-in-ChoiceOf : goal.returns-in-ChoiceOf
returns-in-ChoiceOf c read p oc = simp (c.in-ChoiceOf.is, views)

pub returns-in-Parens : goal.returns-in-Parens
returns-in-Parens c read p oc = simp (c.in-Parens.is, views)

pub returns-in-Tagged : goal.returns-in-Tagged
returns-in-Tagged c read p oc = simp (c.in-Tagged.is, views)

pub returns-in-SimpleBy : goal.returns-in-SimpleBy
returns-in-SimpleBy c read p oc = simp (c.in-SimpleBy.is, views)

pub returns : goal.returns
returns c read p oc = simp (c.in-TaggedBy.is, views)
