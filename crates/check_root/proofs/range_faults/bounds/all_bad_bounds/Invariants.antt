use Rattle.all_offsets.proofs.Lemmas.{Gathers}
use Rattle.check_root.specs.RangeFaults.Bounds.{AreSmall, IsOverWord}
use Rattle.check_root.proofs.range_faults.bounds.all_bad_bounds.Given as goal

abbrev pub invariant-loop-word : goal.invariant-loop-word
invariant-loop-word l = AreSmall l.terms.texts l.reached → Gathers (λ k. IsOverWord l.terms.texts) l.reached l.word-index l.offsets.items
