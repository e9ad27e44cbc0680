use Rattle.check_root.specs.SplicedFaults.Lookups.{shape_at}
use Rattle.all_offsets.specs.Offsets.{IsSaid}
use Rattle.all_offsets.proofs.Lemmas.{Gathers}
use Rattle.check_root.proofs.spliced_faults.shapes.all_shapes.Given as goal

abbrev pub invariant-loop-place : goal.invariant-loop-place
invariant-loop-place l = Gathers (IsSaid (shape_at l.faults l.coming_back)) l.spliced l.place l.offsets.items
