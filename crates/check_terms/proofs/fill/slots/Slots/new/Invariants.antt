use Rattle.std.proofs.Common.{◌≡◌, ℕ, nat_eq, take}
use Rattle.std.specs.HashMap.{get}
use Rattle.check_terms.specs.Fill.Making.{place_in}
use Rattle.check_terms.proofs.fill.slots.Slots.new.Given as goal

abbrev pub invariant-loop-place : goal.invariant-loop-place
invariant-loop-place l = (n : ℕ) → get nat_eq l.places n ≡ place_in (take l.place l.parameters) n
