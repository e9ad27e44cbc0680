use Rattle.std.proofs.Common.{reverse}
use Rattle.cddl_reasons.specs.Greedy.{greedy_of, is_greedy}
use Rattle.cddl_reasons.specs.Opened.{asked_in, waits_in}
use Rattle.table_nodes.specs.Language.{language_of}
use Rattle.cddl_reasons.proofs.LastItems.{IsLeft}
use Rattle.cddl_reasons.proofs.greedy.is_greedy.Given as goal

abbrev pub invariant-each : goal.invariant-each
invariant-each l = IsLeft (greedy_of (language_of l.fn.table)) l.fn.below l.k (is_greedy (language_of l.fn.table) (reverse (asked_in l.fn.below)) (reverse (waits_in l.fn.below)))
