use Rattle.std.proofs.Common.{length}
use Rattle.item_nodes.specs.View.{view}
use Rattle.cddl_match.specs.Entering.{ArePassed}
use Rattle.table_nodes.specs.Language.{language_of}
use Rattle.table_nodes.specs.Nodes.{entries_view}
use Rattle.cddl_match.proofs.entering.asked_from.Given as goal

-- the pair passes over the entries before those that are left
abbrev pub invariant-loop-entry : goal.invariant-loop-entry
invariant-loop-entry l = ArePassed (language_of l.fn.table) (view l.fn.key) (entries_view l.fn.entries) (entries_view l.left)

abbrev pub decreases-loop-entry : goal.decreases-loop-entry
decreases-loop-entry l = length l.left
