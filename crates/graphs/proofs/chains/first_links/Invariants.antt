use Rattle.std.proofs.Common.{◌≡◌, ◌++◌, ◌-◌}
use Rattle.graphs.specs.Chains.Steps.{own_numbers, numbers_from}
use Rattle.graphs.proofs.chains.first_links.Given as goal

abbrev pub invariant-loop-number : goal.invariant-loop-number
invariant-loop-number l = l.links.items ++ numbers_from l.number (l.count - l.number) ≡ own_numbers l.count
