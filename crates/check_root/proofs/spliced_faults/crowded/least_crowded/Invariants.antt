use Rattle.std.proofs.Common.{◌≡◌, None, drop}
use Rattle.check_root.specs.Least.{least_over}
use Rattle.check_root.specs.SplicedFaults.Lookups.{crowded_at}
use Rattle.check_root.proofs.spliced_faults.crowded.least_crowded.Given as goal

abbrev pub invariant-loop-question : goal.invariant-loop-question
invariant-loop-question l = least_over (crowded_at l.faults) l.least (drop l.question-index l.asked) ≡ least_over (crowded_at l.faults) None l.asked
