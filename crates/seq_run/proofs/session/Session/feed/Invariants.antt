use Rattle.std.proofs.Common.{length}
use Rattle.seq_run.proofs.Feeding.{IsFeeding}
use Rattle.seq_run.proofs.session.Session.feed.Given as goal

abbrev pub invariant-steps : goal.invariant-steps
invariant-steps l = IsFeeding l.initial.self l.piece l.initial.out.items l.self l.rest l.out.items

abbrev pub decreases-steps : goal.decreases-steps
decreases-steps l = length l.rest
