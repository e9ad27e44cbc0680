use Rattle.std.proofs.Common.{◌≡◌, ◌++◌, ◌-◌}
use Rattle.check_names.specs.Environment.Places.{lists, no_places}
use Rattle.check_reached.proofs.calls.empty_lists.Given as goal

abbrev pub invariant-loop : goal.invariant-loop
invariant-loop l = lists l.empty.items ++ no_places (l.count - l.counter) ≡ no_places l.count
