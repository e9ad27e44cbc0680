use Rattle.std.proofs.Common.{◌≡◌, ◌++◌, ◌-◌}
use Rattle.check_instances.specs.Closed.Looking.{no_places}
use Rattle.check_instances.proofs.closed.looking.empty_places.Given as goal

abbrev pub invariant-loop : goal.invariant-loop
invariant-loop l = l.places.items ++ no_places (l.count - l.counter) ≡ no_places l.count
