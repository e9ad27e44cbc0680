use Rattle.std.proofs.Common.{ℕ, ◌+◌, ◌<◌, get_or}
use Rattle.item_nodes.proofs.apart.is_rising.Given as goal

-- each of the numbers so far is less than the next
abbrev pub invariant-loop-i : goal.invariant-loop-i
invariant-loop-i l = (k : ℕ) → k + 1 < l.i → get_or l.numbers k 0 < get_or l.numbers (k + 1) 0
