use Rattle.std.proofs.Common.{◌≡◌, ◌++◌, drop}
use Rattle.check_maps.specs.MapFaults.Rules.{all_rules}
use Rattle.check_maps.proofs.map_faults.large.rules_of.Given as goal

abbrev pub invariant-loop-number : goal.invariant-loop-number
invariant-loop-number l = l.rules.items ++ all_rules l.large l.number (drop l.number l.parts) ≡ all_rules l.large 0 l.parts
