use Rattle.std.proofs.Common.{◌≡◌, ◌++◌}
use Rattle.check_recursion.specs.Edges as by
use Rattle.check_recursion.specs.Views.{known}
use Rattle.check_recursion.proofs.edges.push_rows.Given as goal

abbrev pub invariant-loop-row : goal.invariant-loop-row
invariant-loop-row l = l.edges.items ≡ l.initial.edges.items ++ by.rows_edges l.layout.rows l.layout.places (known l.terms l.view) l.row
