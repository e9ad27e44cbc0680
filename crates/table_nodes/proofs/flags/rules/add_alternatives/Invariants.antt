use Rattle.std.proofs.Common.{◌≡◌, ◌++◌, drop, length}
use Rattle.table_nodes.specs.Flags.Rules.{choices}
use Rattle.table_nodes.proofs.flags.rules.add_alternatives.Given as goal

abbrev pub invariant-loop-id : goal.invariant-loop-id
invariant-loop-id l = l.rules.items ++ choices (length l.groups) l.number (drop l.id-index l.ids) ≡ l.fn.rules.items ++ choices (length l.groups) l.number l.ids
