use Rattle.std.proofs.Common.{◌≡◌, ◌++◌}
use Rattle.check_recursion.specs.Edges as by
use Rattle.check_recursion.specs.Views.{known}
use Rattle.check_recursion.proofs.edges.push_places.Given as goal

abbrev pub invariant-loop-place : goal.invariant-loop-place
invariant-loop-place l = l.edges.items ≡ l.initial.edges.items ++ by.places_edges l.layout.rows l.layout.places (known l.terms l.view) l.place
