use Rattle.std.proofs.Common.{◌≡◌, None, drop}
use Rattle.check_root.specs.Least.{least_from}
use Rattle.check_root.specs.SplicedFaults.Lookups.{shape_at}
use Rattle.check_root.proofs.spliced_faults.shapes.least_shape.Given as goal

abbrev pub invariant-loop-place : goal.invariant-loop-place
invariant-loop-place l = least_from (shape_at l.faults l.coming_back) l.place l.least (drop l.place l.spliced) ≡ least_from (shape_at l.faults l.coming_back) 0 None l.spliced
