use Rattle.std.proofs.Common.{◌≡◌, drop}
use Rattle.check_instances.specs.Closed.Looking.{no_places, placed_all}
use Rattle.check_instances.proofs.closed.looking.places_of.Given as goal

abbrev pub invariant-loop-place : goal.invariant-loop-place
invariant-loop-place l = placed_all l.place (drop l.place l.meanings) l.places.items ≡ placed_all 0 l.meanings (no_places l.count)
