-- No rank is above the greatest.
use Rattle.std.proofs.Common.{ℕ, zero, suc, max, ◌≤◌, List, [], ◌∷◌, slice_index_or, arith}
use Rattle.cddl_meaning.specs.Ranks.Ranked.{Name, a_type, a_group}
use Rattle.table_nodes.specs.declared.nodes.TypeId.{TypeId}
use Rattle.table_nodes.specs.declared.nodes.GroupId.{GroupId}
use Rattle.table_nodes.specs.Ranks.{greatest, rank_in}

each : (ns : List ℕ) (i : ℕ) → slice_index_or ns i 0 ≤ greatest ns
each [] zero = omega arith
each [] (suc i) = omega arith
each (n ∷ ns) zero = grind (arith)
each (n ∷ ns) (suc i) = let h : slice_index_or ns i 0 ≤ greatest ns = each ns i in grind (arith)

pub at_most : (types groups : List ℕ) (a : Name TypeId GroupId) → rank_in types groups a ≤ max (greatest types) (greatest groups)
at_most types groups (a_type n) = let h = each types n.number in grind (arith)
at_most types groups (a_group g) = let h = each groups g.number in grind (arith)
