use Rattle.std.proofs.Common.{◌≡◌, max, drop}
use Rattle.table_nodes.specs.Ranks.{greatest}
use Rattle.table_nodes.proofs.ranks.greatest.Given as goal

abbrev pub invariant-loop-number : goal.invariant-loop-number
invariant-loop-number l = max l.most (greatest (drop l.number-index l.numbers)) ≡ greatest l.numbers
