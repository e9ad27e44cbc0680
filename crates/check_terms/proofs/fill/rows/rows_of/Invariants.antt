use Rattle.check_terms.proofs.OfFill.Unfolding.{IsTaken, bound}
use Rattle.check_terms.proofs.fill.rows.rows_of.Given as goal

abbrev pub invariant-loop-number : goal.invariant-loop-number
invariant-loop-number l = IsTaken l.terms l.body l.parts.keys l.rows.items

abbrev pub decreases-loop-number : goal.decreases-loop-number
decreases-loop-number l = bound l.parts.keys
