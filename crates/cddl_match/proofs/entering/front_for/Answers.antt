use Rattle.table_nodes.specs.Nodes.{entries_view}
use Rattle.cddl_match.proofs.entering.front_for.Goals as goal

pub returns : goal.returns
returns c = λ ways some e a b. c.front_of.ensures ways some (entries_view c.args.entries.now) e a b
