use Rattle.std.proofs.Common.{drop}
use Rattle.check_root.specs.RangeFaults.Bounds.{AreSmall, IsOverWord}
use Rattle.all_offsets.proofs.Lemmas.{Goes}
use Rattle.check_root.proofs.range_faults.bounds.bad_bounds.Given as goal

abbrev pub invariant-loop-word : goal.invariant-loop-word
invariant-loop-word l = AreSmall l.terms.texts l.reached → Goes (IsOverWord l.terms.texts) l.reached (drop l.word-index l.reached) l.least
