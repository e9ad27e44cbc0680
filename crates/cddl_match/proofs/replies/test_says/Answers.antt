use Rattle.std.proofs.Common.{arith}
use Rattle.item_nodes.specs.View.{view}
use Rattle.cddl_meaning.specs.Moves.{OfType}
use Rattle.table_nodes.specs.Nodes.{test_view}
use Rattle.cddl_match.proofs.Outcomes.{few}
use Rattle.cddl_match.proofs.Sayings.{test_on}
use Rattle.cddl_match.proofs.Ways.{opens}
use Rattle.cddl_match.proofs.replies.test_says.Goals as goal

pub returns-in_default : goal.returns-in_default
returns-in_default c = λ l n e. few l c.args.means.now.left c.args.means.now.left (opens l (OfType n c.args.place (view c.args.item.now))) (omega (arith, c.in_default.ensures))

pub returns : goal.returns
returns c = λ l n e. rw c.tested.ensures (test_on l c.args.place (view c.args.item.now) (test_view c.args.test.now) c.args.means.now.left c.in-Some.left e (omega (arith, c.in-Some.ensures)))
