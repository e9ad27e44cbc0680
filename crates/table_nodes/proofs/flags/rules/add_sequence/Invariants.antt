use Rattle.std.proofs.Common.{◌≡◌, ◌++◌, drop, length, None}
use Rattle.table_nodes.specs.Flags.Rules.{chain}
use Rattle.table_nodes.proofs.flags.rules.add_sequence.Given as goal

abbrev pub invariant-loop-id : goal.invariant-loop-id
invariant-loop-id l = l.rules.items ++ chain (length l.groups) l.number (length l.rules.items) l.before (drop l.id-index l.ids) ≡ l.fn.rules.items ++ chain (length l.groups) l.number (length l.fn.rules.items) None l.ids
