use Rattle.check_root.specs.SplicedFaults.Lookups.{crowded_at}
use Rattle.all_offsets.specs.Offsets.{IsSaid}
use Rattle.all_offsets.proofs.Lemmas.{Gathers}
use Rattle.check_root.proofs.spliced_faults.crowded.all_crowded.Given as goal

abbrev pub invariant-loop-question : goal.invariant-loop-question
invariant-loop-question l = Gathers (IsSaid (λ k. crowded_at l.faults)) l.asked l.question-index l.offsets.items
