use Rattle.std.proofs.Common.{◌≡◌, drop}
use Rattle.cddl_meaning.specs.Moves.{enough_of}
use Rattle.table_nodes.specs.Nodes.{entries_view}
use Rattle.match_moves.proofs.sorting.are_enough.Given as goal

-- the entries that are left, with the counts that are left
abbrev pub invariant-loop-entry : goal.invariant-loop-entry
invariant-loop-entry l = enough_of (entries_view l.entries) l.counts ≡ enough_of (entries_view (drop l.entry-index l.entries)) l.left
