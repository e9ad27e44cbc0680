use Rattle.std.proofs.Common.{◌≡◌, ◌++◌, drop, length}
use Rattle.table_nodes.specs.Flags.Rules.{all_rules}
use Rattle.table_nodes.proofs.flags.rules.rules_of.Given as goal

abbrev pub invariant-loop-number : goal.invariant-loop-number
invariant-loop-number l = l.rules.items ++ all_rules (length l.groups) l.number (length l.rules.items) (drop l.number l.groups) ≡ all_rules (length l.groups) 0 0 l.groups
