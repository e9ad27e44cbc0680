use Rattle.std.proofs.lemmas.Result.{IfOk-weaker}
use Rattle.std.proofs.Common.{Some, false, true}
use Rattle.cddl_meaning.specs.Alike.{arrays, heads, refs, simples, tags}
use Rattle.check_instances.specs.Closed.Closed.{alternatives_of}
use Rattle.cddl_language.specs.Reach.{points}
use Rattle.cddl_language.specs.Terms.{literal}
use Rattle.check_terms.specs.Trees.{IsTerm}
use Rattle.table_making.specs.Origins.{IsKnown, IsTermForm, of_alternatives, of_row}
use Rattle.table_making.specs.declared.form.TagForm.TheVariants as K
use Rattle.table_making.specs.declared.form.TypeForm.TheVariants as T
use Rattle.table_making.specs.declared.origin.GroupOrigin.TheVariants as GO
use Rattle.table_making.specs.declared.origin.TypeOrigin.TheVariants as O
use Rattle.table_making.proofs.Forming.{array_case, choice_of_case, choice_of_name_case, control_case, hash_case, literal_case, literal_formed, map_case, named_case, or_case, other_case, parens_case, range_below_case, range_between, range_case, simple_case, tagged_by_case, tagged_case, unwrapped_case}
use Rattle.table_making.proofs.Knowing.{group_known}
use Rattle.table_making.proofs.Reaching.{reached_left, reached_right}
use Rattle.table_making.proofs.types.row_form.Goals as goal

pub returns-in-Literal : goal.returns-in-Literal
returns-in-Literal c = IfOk-weaker c.equal_form.result _ _ (λ f h s x src is re. literal_case c.args.terms.now (λ y. IsTerm c.args.terms.now c.args.row y → IsKnown s y → IsTermForm s c.args.terms.now y f) x (c.in-Literal.ensures x is) (λ v it q. literal_formed s c.args.terms.now v _ _ h (src.literals_are.values c.args.row (literal v) it q)) is re) c.equal_form.ensures

pub returns-in-Named : goal.returns-in-Named
returns-in-Named c = IfOk-weaker c.named_form.result _ _ (λ f h s x src is re. named_case c.args.terms.now (λ y. IsKnown s y → IsTermForm s c.args.terms.now y f) x c.in-Named.call (c.in-Named.ensures x is) (λ r it q. h s r src it q.0) re) c.named_form.ensures

pub returns-in-Parens : goal.returns-in-Parens
returns-in-Parens c s x src is re = parens_case c.args.terms.now (λ y. IsKnown s y → IsTermForm s c.args.terms.now y (T.Ref (O.Row c.in-Parens.part))) x c.in-Parens.part (c.in-Parens.ensures x is) (λ y it q. refs (of_row it q.0 q.1)) re

pub returns-in-MapOf : goal.returns-in-MapOf
returns-in-MapOf c = IfOk-weaker c.map_form.result _ _ (λ f h s x src is re. map_case c.args.terms.now (λ y. IsKnown s y → IsTermForm s c.args.terms.now y f) x c.in-MapOf.group (c.in-MapOf.ensures x is) (λ g it q. h s g src it q) re) c.map_form.ensures

pub returns-in-ArrayOf : goal.returns-in-ArrayOf
returns-in-ArrayOf c s x src is re = array_case c.args.terms.now (λ y. IsKnown s y → IsTermForm s c.args.terms.now y (T.ArrayOf (GO.Alternatives (Some c.in-ArrayOf.group)))) x c.in-ArrayOf.group (c.in-ArrayOf.ensures x is) (λ g it q. arrays (of_alternatives (alternatives_of g it) (group_known s g q).0 (group_known s g q).1)) re

pub returns-in-Unwrapped : goal.returns-in-Unwrapped
returns-in-Unwrapped c = IfOk-weaker c.unwrapped_form.result _ _ (λ f h s x src is re. unwrapped_case c.args.terms.now (λ y. IsKnown s y → IsTermForm s c.args.terms.now y f) x c.in-Unwrapped.call (c.in-Unwrapped.ensures x is) (λ r it q. h s r src it q.0) re) c.unwrapped_form.ensures

pub returns-in-ChoiceOf : goal.returns-in-ChoiceOf
returns-in-ChoiceOf c = IfOk-weaker c.choice_form.result _ _ (λ f h s x src is re. choice_of_case c.args.terms.now (λ y. IsKnown s y → IsTermForm s c.args.terms.now y f) x c.in-ChoiceOf.group (c.in-ChoiceOf.ensures x is) (λ g it q. h s g src it q) re) c.choice_form.ensures

pub returns-in-ChoiceOfName : goal.returns-in-ChoiceOfName
returns-in-ChoiceOfName c = IfOk-weaker c.named_choice_form.result _ _ (λ f h s x src is re. choice_of_name_case c.args.terms.now (λ y. IsKnown s y → IsTermForm s c.args.terms.now y f) x c.in-ChoiceOfName.call (c.in-ChoiceOfName.ensures x is) (λ r it q. h s r src it q.0) re) c.named_choice_form.ensures

pub returns-in-Tagged : goal.returns-in-Tagged
returns-in-Tagged c = IfOk-weaker c.tagged_form.result _ _ (λ f h s x src is re. tagged_case c.args.terms.now (λ y. IsKnown s y → IsTermForm s c.args.terms.now y f) x c.in-Tagged.text c.in-Tagged.content (c.in-Tagged.ensures x is) (λ n y e it q. h s n y e it q) re) c.tagged_form.ensures

pub returns-in-TaggedBy : goal.returns-in-TaggedBy
returns-in-TaggedBy c s x src is re = tagged_by_case c.args.terms.now (λ y. IsKnown s y → IsTermForm s c.args.terms.now y (T.TagOf (K.SuchAs (O.Row c.in-TaggedBy.head)) (O.Row c.in-TaggedBy.content))) x c.in-TaggedBy.head c.in-TaggedBy.content (c.in-TaggedBy.ensures x is) (λ y z g it q. tags (heads (of_row g (reached_left s (points y) (points z) q.0) q.1.0)) (of_row it (reached_right s (points y) (points z) q.0) q.1.1)) re

pub returns-in-SimpleBy : goal.returns-in-SimpleBy
returns-in-SimpleBy c s x src is re = simple_case c.args.terms.now (λ y. IsKnown s y → IsTermForm s c.args.terms.now y (T.SimpleBy (O.Row c.in-SimpleBy.head))) x c.in-SimpleBy.head (c.in-SimpleBy.ensures x is) (λ y it q. simples (of_row it q.0 q.1)) re

pub returns-in-Hash : goal.returns-in-Hash
returns-in-Hash c = IfOk-weaker c.hash_form.result _ _ (λ f h s x src is re. hash_case c.args.terms.now (λ y. IsTermForm s c.args.terms.now y f) x c.in-Hash.text (c.in-Hash.ensures x is) (λ n e. h s n e)) c.hash_form.ensures

pub returns-in-Range : goal.returns-in-Range
returns-in-Range c s x src is re = range_case c.args.terms.now (λ y. IsKnown s y → IsTermForm s c.args.terms.now y c.range_form.result) x c.in-Range.least c.in-Range.last (c.in-Range.ensures x is) (λ y z g it q. range_between s c.args.terms.now c.args.source.now.literals.now src.literals_are true y z c.in-Range.least c.in-Range.last _ c.range_form.ensures g it q) re

pub returns-in-RangeBelow : goal.returns-in-RangeBelow
returns-in-RangeBelow c s x src is re = range_below_case c.args.terms.now (λ y. IsKnown s y → IsTermForm s c.args.terms.now y c.range_form-in-RangeBelow.result) x c.in-RangeBelow.least c.in-RangeBelow.last (c.in-RangeBelow.ensures x is) (λ y z g it q. range_between s c.args.terms.now c.args.source.now.literals.now src.literals_are false y z c.in-RangeBelow.least c.in-RangeBelow.last _ c.range_form-in-RangeBelow.ensures g it q) re

pub returns-in-Or : goal.returns-in-Or
returns-in-Or c = IfOk-weaker c.or_form.result _ _ (λ f h s x src is re. or_case c.args.terms.now (λ y. IsTerm c.args.terms.now c.args.row y → IsKnown s y → IsTermForm s c.args.terms.now y f) x (c.in-Or.ensures x is) (λ y z it q. h s y z it q) is re) c.or_form.ensures

pub returns-in-Control : goal.returns-in-Control
returns-in-Control c = IfOk-weaker c.control_form.result _ _ (λ f h s x src is re. control_case c.args.terms.now (λ y. IsTerm c.args.terms.now c.args.row y → IsKnown s y → IsTermForm s c.args.terms.now y f) x c.in-Control.name c.in-Control.left c.in-Control.right (c.in-Control.ensures x is) (λ n y z e g i it q. h s n y z src it e g i q) is re) c.control_form.ensures

pub returns-in-Other : goal.returns-in-Other
returns-in-Other c s x src is re = other_case c.args.terms.now (λ y. IsTermForm s c.args.terms.now y c.nothing.result) x (c.in-Other.ensures x is)
