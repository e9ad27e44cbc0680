use Rattle.std.proofs.Common.{arith, sym}
use Rattle.item_nodes.specs.View.{view}
use Rattle.table_nodes.specs.Language.{language_of}
use Rattle.table_nodes.specs.Nodes.{test_view}
use Rattle.cddl_match.proofs.Keys.{test_says_key, too_few_for_key}
use Rattle.cddl_match.proofs.replies.key_tested.Goals as goal

pub returns-in_default : goal.returns-in_default
returns-in_default c = λ e is. too_few_for_key c.args.table.now c.args.place c.args.pair.now e (test_view c.args.test.now) is c.args.means.now.left c.args.means.now.left c.steps_for_key.result (c.steps_for_key.ensures (language_of c.args.table.now).type_at e.key_type (view c.args.pair.now.0) is (sym c.passes-says.ensures)) (omega (arith, c.in_default.ensures))

pub returns : goal.returns
returns c = λ e is. rw (c.said_of.ensures, c.passes-says.ensures) (test_says_key c.args.table.now c.args.place c.args.pair.now e (test_view c.args.test.now) is c.args.means.now.left c.in-Some.left c.steps_for_key.result (c.steps_for_key.ensures (language_of c.args.table.now).type_at e.key_type (view c.args.pair.now.0) is (sym c.passes-says.ensures)) (omega (arith, c.in-Some.ensures)))
