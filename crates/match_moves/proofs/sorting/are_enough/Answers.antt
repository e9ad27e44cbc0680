use Rattle.std.proofs.Common.{sym, ◌∙◌, drop}
use Rattle.lists.proofs.Lemmas.{none_left}
use Rattle.table_nodes.specs.Nodes.{entries_view}
use Rattle.match_moves.proofs.Lists.{enough_of_none}
use Rattle.match_moves.proofs.sorting.are_enough.Goals as goal

pub returns-in-None : goal.returns-in-None
returns-in-None c = enough_of_none (entries_view (drop c.loop-entry.entry-index c.args.entries.now)) c.loop-entry.left.now (none_left _ c.in-None.ensures.cases) ∙ sym c.loop-entry.invariant
