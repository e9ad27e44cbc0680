use Rattle.std.proofs.Common.{◌≡◌, ℕ}
use Rattle.table_nodes.specs.Majors.{shows, told_in, types_in}
use Rattle.table_nodes.specs.declared.nodes.TypeId.{TypeId}
use Rattle.table_nodes.proofs.majors.told_of.Given as goal

abbrev pub invariant-loop-round : goal.invariant-loop-round
invariant-loop-round l = (n : TypeId) (m : ℕ) → told_in l.rows.items n m ≡ shows (types_in l.fn.types) l.round n m
