use Rattle.std.proofs.Common.{◌≡◌, None, drop}
use Rattle.check_root.specs.ReachedFaults.Choices.{unchosen_at}
use Rattle.check_root.specs.Least.{least_over}
use Rattle.check_root.proofs.reached_faults.choices.least_unchosen.Given as goal

abbrev pub invariant-loop-question : goal.invariant-loop-question
invariant-loop-question l = least_over (unchosen_at l.closed l.choosable) l.least (drop l.question-index l.asked) ≡ least_over (unchosen_at l.closed l.choosable) None l.asked
