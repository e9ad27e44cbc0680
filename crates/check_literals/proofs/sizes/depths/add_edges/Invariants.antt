use Rattle.std.proofs.Common.{◌≡◌, ◌++◌, drop}
use Rattle.check_literals.specs.Sizes.Depths.{edges_to}
use Rattle.check_literals.proofs.sizes.depths.add_edges.Given as goal

abbrev pub invariant-loop-part : goal.invariant-loop-part
invariant-loop-part l = l.edges.items ++ edges_to l.from (drop l.part-index l.parts) ≡ l.fn.edges.items ++ edges_to l.from l.parts
