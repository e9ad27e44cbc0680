use Rattle.std.proofs.Common.{◌-◌, length}
use Rattle.table_nodes.specs.Nodes.{entries_view}
use Rattle.tape_match.specs.Says.{BeginSame}
use Rattle.tape_match.proofs.before.same_from.Given as goal

abbrev pub invariant-loop-number : goal.invariant-loop-number
invariant-loop-number l = BeginSame l.fn.front (entries_view l.fn.some) (entries_view l.fn.others) → BeginSame l.number (entries_view l.fn.some) (entries_view l.fn.others)

abbrev pub decreases-loop-number : goal.decreases-loop-number
decreases-loop-number l = length l.fn.some - l.number
