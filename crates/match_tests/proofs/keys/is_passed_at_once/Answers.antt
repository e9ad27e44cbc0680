use Rattle.item_nodes.specs.View.{view}
use Rattle.table_nodes.specs.Language.{language_of}
use Rattle.match_tests.proofs.OfKeys.{passed_so}
use Rattle.match_tests.proofs.keys.is_passed_at_once.Goals as goal

pub returns-in-Some-Plain-Equals : goal.returns-in-Some-Plain-Equals
returns-in-Some-Plain-Equals c = λ h. passed_so (language_of c.args.table.now).type_at c.args.entry.now.key_type (view c.in-Some-Plain-Equals.literal) (view c.args.key.now) (rw c.in-Some-Plain-Equals.field-0-0-is at (rw c.in-Some-Plain-Equals.field-0-is at c.in-Some-Plain-Equals.ensures.found)) (c.differ_at_once.ensures h)
