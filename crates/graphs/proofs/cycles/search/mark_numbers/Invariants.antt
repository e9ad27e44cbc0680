use Rattle.std.proofs.Common.{◌≡◌, ◌++◌, drop, map}
use Rattle.graphs.specs.Cycles.Search.{number}
use Rattle.graphs.proofs.cycles.search.mark_numbers.Given as goal

abbrev pub invariant-loop-mark : goal.invariant-loop-mark
invariant-loop-mark l = l.numbers.items ++ map number (drop l.mark-index l.marks) ≡ map number l.marks
