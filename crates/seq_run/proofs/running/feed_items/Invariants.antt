use Rattle.std.proofs.Common.{length}
use Rattle.seq_run.proofs.Reporting.{IsReporting}
use Rattle.seq_run.proofs.running.feed_items.Given as goal

abbrev pub invariant-steps : goal.invariant-steps
invariant-steps l = IsReporting l.fn.mode l.initial.session l.piece l.initial.bytes l.session l.rest l.bytes

abbrev pub decreases-steps : goal.decreases-steps
decreases-steps l = length l.rest
