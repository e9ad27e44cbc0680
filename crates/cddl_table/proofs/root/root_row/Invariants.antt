use Rattle.std.proofs.Common.{◌≡◌, drop}
use Rattle.cddl_table.specs.Root.{root_row}
use Rattle.cddl_table.proofs.root.root_row.Given as goal

abbrev pub invariant-loop-meaning : goal.invariant-loop-meaning
invariant-loop-meaning l = root_row l.terms.rows l.root (drop l.meaning-index l.meaning-items) ≡ root_row l.terms.rows l.root l.closed.meanings.items
