use Rattle.std.proofs.Common.{◌≡◌, ◌++◌, drop, false}
use Rattle.check_names.specs.Environment.Places.{counting}
use Rattle.check_names.proofs.environment.places.counting.Given as goal

abbrev pub invariant-loop-place : goal.invariant-loop-place
invariant-loop-place l = l.counting.items ++ counting l.definitions l.met (drop l.place-index l.places) ≡ counting l.definitions false l.places
