use Rattle.std.proofs.Common.{◌≡◌, ◌++◌, map, drop}
use Rattle.check_literals.specs.Edges.{edges_from}
use Rattle.check_literals.specs.Needs.{need_view}
use Rattle.check_literals.proofs.edges.edges_of.Given as goal

abbrev pub invariant-loop-row : goal.invariant-loop-row
invariant-loop-row l = l.edges.items ++ edges_from l.row (map need_view (drop l.row l.needs)) ≡ edges_from 0 (map need_view l.needs)
