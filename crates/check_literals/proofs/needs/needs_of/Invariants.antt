use Rattle.std.proofs.Common.{map}
use Rattle.check_literals.specs.Needs.{AreNeeds, need_view}
use Rattle.check_literals.proofs.needs.needs_of.Given as goal

abbrev pub invariant-loop-row : goal.invariant-loop-row
invariant-loop-row l = AreNeeds l.terms l.closed l.kinds l.row (map need_view l.needs.items)
