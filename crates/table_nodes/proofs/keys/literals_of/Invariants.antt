use Rattle.std.proofs.Common.{◌≡◌, length}
use Rattle.table_nodes.specs.Keys.{AreLiterals}
use Rattle.table_nodes.proofs.keys.literals_of.Given as goal

-- They are so of the first types, one for each.
abbrev pub invariant-loop-number : goal.invariant-loop-number
invariant-loop-number l = record {
  many : length l.literals.items ≡ l.number;
  valued : AreLiterals l.fn.types l.literals.items;
}
