use Rattle.std.proofs.Common.{◌≡◌, ◌++◌, drop}
use Rattle.check_instances.specs.Openings.Steps.{openings_of}
use Rattle.check_instances.proofs.openings.openings.ended_openings.Given as goal

abbrev pub invariant-loop-place : goal.invariant-loop-place
invariant-loop-place l = l.openings.items ++ openings_of l.terms.rows l.kinds l.ends l.place (drop l.place l.meanings) ≡ openings_of l.terms.rows l.kinds l.ends 0 l.meanings
