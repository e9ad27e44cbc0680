use Rattle.std.proofs.Common.{ap, ◌∙◌, arith}
use Rattle.cddl_meaning.specs.Forms.{is_other}
use Rattle.item_nodes.specs.View.{view}
use Rattle.tape_match.proofs.Left.{the_same}
use Rattle.tape_match.proofs.keys.named_known.Goals as goal

pub returns-in-Some-true : goal.returns-in-Some-true
returns-in-Some-true c = λ t x seen. ap (λ o. is_other o x) c.in-Some.ensures ∙ (c.in-Some-true.ensures t x seen ∙ c.in-Some-true.field-0-test)

pub returns-in-Some-false : goal.returns-in-Some-false
returns-in-Some-false c = λ t x seen. (
  ap (λ o. is_other o x) c.in-Some.ensures ∙ (c.in-Some-false.ensures t x seen ∙ c.in-Some-false.field-0-test),
  λ some. c.cost_of_names.ensures some (view c.in-Some.literal.now) x c.in-Some.ensures (the_same _ (c.in-Some-false.ensures t x seen ∙ c.in-Some-false.field-0-test)),
)

pub returns-in_default : goal.returns-in_default
returns-in_default c = λ t x seen. (ap (λ o. is_other o x) c.in_default.ensures, λ some. absurd (omega (arith, some)))
