use Rattle.std.proofs.Common.{drop}
use Rattle.check_instances.proofs.OfClosed.Groups.{AreTyped}
use Rattle.check_instances.proofs.closed.meanings.types_of.Given as goal

abbrev pub invariant-loop-body : goal.invariant-loop-body
invariant-loop-body l = AreTyped l.terms l.bodies (drop l.body-index l.bodies) l.types.items
