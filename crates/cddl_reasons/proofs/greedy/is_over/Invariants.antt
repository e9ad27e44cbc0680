use Rattle.std.proofs.Common.{◌≡◌, length, reverse}
use Rattle.cddl_reasons.specs.Greedy.{is_over}
use Rattle.table_nodes.specs.Language.{language_of}
use Rattle.cddl_reasons.proofs.greedy.is_over.Given as goal

abbrev pub invariant-each : goal.invariant-each
invariant-each l = is_over (language_of l.fn.table) (reverse l.fn.parts) l.fn.count ≡ is_over (language_of l.fn.table) (reverse l.left) l.items

abbrev pub decreases-each : goal.decreases-each
decreases-each l = length l.left
