use Rattle.std.proofs.Common.{drop}
use Rattle.check_instances.proofs.OfClosed.Groups.{AreMade}
use Rattle.check_instances.proofs.closed.meanings.meanings_of.Given as goal

abbrev pub invariant-loop-instance : goal.invariant-loop-instance
invariant-loop-instance l = AreMade l.initial.terms l.terms l.found (drop l.instance-index l.found) l.meanings.items
