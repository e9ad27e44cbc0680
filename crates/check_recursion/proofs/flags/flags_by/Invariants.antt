use Rattle.std.proofs.Common.{◌≡◌}
use Rattle.check_recursion.specs.Edges as by
use Rattle.check_recursion.proofs.flags.flags_by.Given as goal

abbrev pub invariant-loop-place : goal.invariant-loop-place
invariant-loop-place l = l.flags.items ≡ by.flags_below l.layout.rows l.layout.places l.marks l.references l.place
