use Rattle.std.proofs.Common.{◌-◌, ◌≤◌}
use Rattle.table_nodes.specs.Fronts.{BeginAlike}
use Rattle.match_moves.proofs.alike.begin_alike.Given as goal

abbrev pub invariant-loop-same : goal.invariant-loop-same
invariant-loop-same l = record { within : l.same ≤ l.count; alike : BeginAlike l.same l.some l.others }

abbrev pub decreases-loop-same : goal.decreases-loop-same
decreases-loop-same l = l.count - l.same
