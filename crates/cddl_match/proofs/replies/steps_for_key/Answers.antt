use Rattle.std.proofs.Common.{◌∙◌, true, false, ap}
use Rattle.item_nodes.specs.View.{view}
use Rattle.table_nodes.specs.Nodes.{test_view}
use Rattle.cddl_match.proofs.Keys.{of_literal, of_other}
use Rattle.cddl_match.proofs.replies.steps_for_key.Goals as goal

pub returns-then-says : goal.returns-then-says
returns-then-says c = λ type_at n k e h. of_literal type_at n k (view c.in-Equals.field-0) (test_view c.args.test.now) true (ap test_view c.in-Equals.is) e (h ∙ c.if-says.true)

pub returns-else-says : goal.returns-else-says
returns-else-says c = λ type_at n k e h. of_literal type_at n k (view c.in-Equals.field-0) (test_view c.args.test.now) false (ap test_view c.in-Equals.is) e (h ∙ c.if-says.false)

pub returns-in_default : goal.returns-in_default
returns-in_default c = λ type_at n k e h. of_other type_at n k c.args.test.now c.in_default.not-Equals e
