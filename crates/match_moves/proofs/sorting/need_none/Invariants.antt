use Rattle.std.proofs.Common.{◌≡◌, drop}
use Rattle.cddl_meaning.specs.Moves.{enough_of, no_counts}
use Rattle.table_nodes.specs.Nodes.{entries_view}
use Rattle.match_moves.proofs.sorting.need_none.Given as goal

-- those so far need none
abbrev pub invariant-loop-entry : goal.invariant-loop-entry
invariant-loop-entry l = enough_of (entries_view l.entries) (no_counts (entries_view l.entries)) ≡ enough_of (entries_view (drop l.entry-index l.entries)) (no_counts (entries_view (drop l.entry-index l.entries)))
