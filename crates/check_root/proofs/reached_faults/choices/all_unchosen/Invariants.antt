use Rattle.check_root.specs.ReachedFaults.Choices.{unchosen_at}
use Rattle.all_offsets.specs.Offsets.{IsSaid}
use Rattle.all_offsets.proofs.Lemmas.{Gathers}
use Rattle.check_root.proofs.reached_faults.choices.all_unchosen.Given as goal

abbrev pub invariant-loop-question : goal.invariant-loop-question
invariant-loop-question l = Gathers (IsSaid (λ k. unchosen_at l.closed l.choosable)) l.asked l.question-index l.offsets.items
