use Rattle.std.proofs.Common.{◌≡◌, ◌++◌, drop}
use Rattle.check_groups.specs.Causes.Rules.{all_rules}
use Rattle.check_groups.proofs.causes.rules.rules_of.Given as goal

abbrev pub invariant-loop-number : goal.invariant-loop-number
invariant-loop-number l = l.rules.items ++ all_rules l.number (drop l.number l.causes) ≡ all_rules 0 l.causes
