use Rattle.table_making.proofs.Shaping.{entry_is_node, no_row, occurrence_there}
use Rattle.check_terms.specs.Trees.{entry_tree}
use Rattle.table_making.proofs.groups.occurrence_text.Goals as goal

pub returns-in-Some : goal.returns-in-Some
returns-in-Some c e is = occurrence_there c.args.terms.now c.args.row e c.in-Some.row c.in-Some.ensures is

pub returns-in-None : goal.returns-in-None
returns-in-None c e is = absurd (no_row c.args.terms.now c.args.row (entry_tree e) (entry_is_node e) c.in-None.ensures is)
