use Rattle.std.proofs.Common.{◌≡◌, ◌++◌, ◌-◌}
use Rattle.check_names.specs.Environment.Places.{lists, no_places}
use Rattle.check_names.proofs.environment.places.empty_places.Given as goal

abbrev pub invariant-loop : goal.invariant-loop
invariant-loop l = lists l.places.items ++ no_places (l.count - l.counter) ≡ no_places l.count
