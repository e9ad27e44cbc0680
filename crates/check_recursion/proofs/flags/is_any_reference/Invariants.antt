use Rattle.std.proofs.Common.{◌≡◌, ◌<◌, ℕ, false}
use Rattle.check_recursion.specs.Edges as by
use Rattle.check_recursion.proofs.flags.is_any_reference.Given as goal

abbrev pub invariant-loop-place : goal.invariant-loop-place
invariant-loop-place l = (k : ℕ) → k < l.place → by.has_reference l.layout.rows l.layout.places l.marks k ≡ false
