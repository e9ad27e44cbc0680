use Rattle.source_places.proofs.Copying.{HasRows}
use Rattle.source_places.proofs.copies.copy_rows.Given as goal

abbrev pub invariant-loop-number : goal.invariant-loop-number
invariant-loop-number l = HasRows l.terms l.copy l.number
