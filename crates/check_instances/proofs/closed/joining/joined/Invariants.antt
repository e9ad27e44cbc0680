use Rattle.std.proofs.Common.{drop}
use Rattle.check_instances.proofs.OfClosed.Groups.{AreJoined}
use Rattle.check_instances.proofs.closed.joining.joined.Given as goal

abbrev pub invariant-loop-row : goal.invariant-loop-row
invariant-loop-row l = AreJoined l.initial.terms l.terms l.group l.further (drop l.row-index l.row-items) l.whole
