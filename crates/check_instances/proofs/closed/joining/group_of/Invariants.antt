use Rattle.std.proofs.Common.{drop}
use Rattle.check_instances.proofs.OfClosed.Groups.{AreGrouped}
use Rattle.check_instances.proofs.closed.joining.group_of.Given as goal

abbrev pub invariant-loop-body : goal.invariant-loop-body
invariant-loop-body l = AreGrouped l.initial.terms l.terms l.bodies (drop l.body-index l.bodies) l.group
