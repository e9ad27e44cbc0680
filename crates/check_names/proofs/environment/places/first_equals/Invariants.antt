use Rattle.std.proofs.Common.{◌≡◌, drop}
use Rattle.check_names.specs.Environment.Places.{first_equals}
use Rattle.check_names.proofs.environment.places.first_equals.Given as goal

abbrev pub invariant-loop-place : goal.invariant-loop-place
invariant-loop-place l = first_equals l.definitions (drop l.place-index l.places) ≡ first_equals l.definitions l.places
