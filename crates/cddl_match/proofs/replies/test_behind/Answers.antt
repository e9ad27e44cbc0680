use Rattle.item_nodes.specs.View.{view}
use Rattle.table_nodes.specs.Nodes.{test_view}
use Rattle.cddl_match.proofs.Sayings.{tested_ends, too_many_bits}
use Rattle.cddl_match.proofs.replies.test_behind.Goals as goal

pub returns-in_default : goal.returns-in_default
returns-in_default c = λ l. too_many_bits l (test_view c.args.test.now) c.args.place c.args.next (view c.args.item.now) c.args.means.now.left c.args.means.now.left c.in_default.ensures

pub returns : goal.returns
returns c = λ l. rw (c.such_said.ensures, c.passes.ensures) (tested_ends l (test_view c.args.test.now) c.args.place c.args.next (view c.args.item.now) c.args.means.now.left c.in-Some.left c.in-Some.ensures)
