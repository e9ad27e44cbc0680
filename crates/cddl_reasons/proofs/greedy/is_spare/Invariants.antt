use Rattle.std.proofs.Common.{◌≡◌, length, reverse}
use Rattle.cddl_reasons.specs.Greedy.{is_spare}
use Rattle.table_nodes.specs.Language.{language_of}
use Rattle.cddl_reasons.proofs.greedy.is_spare.Given as goal

abbrev pub invariant-each : goal.invariant-each
invariant-each l = is_spare (language_of l.fn.table) (reverse l.fn.parts) l.fn.count ≡ is_spare (language_of l.fn.table) (reverse l.left) l.fn.count

abbrev pub decreases-each : goal.decreases-each
decreases-each l = length l.left
