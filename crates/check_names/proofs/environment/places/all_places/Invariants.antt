use Rattle.std.proofs.Common.{◌≡◌, drop}
use Rattle.check_names.specs.Environment.Places.{added_all, lists, no_places}
use Rattle.check_names.proofs.environment.places.all_places.Given as goal

abbrev pub invariant-loop-place : goal.invariant-loop-place
invariant-loop-place l = added_all l.place (drop l.place l.definitions) (lists l.places.items) ≡ added_all 0 l.definitions (no_places l.count)
