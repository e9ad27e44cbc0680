use Rattle.std.proofs.Common.{◌≡◌, ◌++◌, drop}
use Rattle.check_recursion.specs.Edges as by
use Rattle.check_recursion.proofs.edges.push_types.Given as goal

abbrev pub invariant-loop-row : goal.invariant-loop-row
invariant-loop-row l = l.edges.items ++ by.types_edges l.layout.rows l.layout.places l.place (drop l.row-index l.types) ≡ l.initial.edges.items ++ by.types_edges l.layout.rows l.layout.places l.place l.types
