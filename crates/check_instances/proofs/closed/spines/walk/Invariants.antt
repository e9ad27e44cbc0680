use Rattle.check_instances.proofs.OfClosed.Walks.{IsSoFar}
use Rattle.check_instances.proofs.closed.spines.walk.Given as goal

abbrev pub invariant-loop-before : goal.invariant-loop-before
invariant-loop-before l = IsSoFar l.spine l.terms.rows l.row l.parts.items l.end

abbrev pub decreases-loop-before : goal.decreases-loop-before
decreases-loop-before l = l.end
