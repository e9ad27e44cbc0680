use Rattle.cddl.proofs.Telling.{rooted}
use Rattle.cddl.proofs.laws.table_has_root.Goals as goal

pub returns : goal.returns
returns c = rooted c.trees_are_of_tokens.ensures c.one_table_of_values.ensures.some c.table_stands_for_text.ensures.item c.table_stands_for_text.ensures.stream
