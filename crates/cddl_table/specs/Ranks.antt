-- Ranks of types and groups, by what they are of.
use Rattle.std.specs.Prelude.{◌≡◌, ℕ, ◌+◌, ◌*◌, ◌≤◌, nat_lt, cond, List, [], ◌∷◌, map, Contains, Some, None}
use Rattle.std.specs.List.Sorted.{IsStrictlyIncreasing}
use Rattle.cddl_meaning.specs.Ranks.Ranked.{Name}
use Rattle.table_nodes.specs.Language.{rank_of, ranks_of}
use Rattle.table_nodes.specs.Ranks.{rank_in}
use Rattle.table_nodes.specs.declared.nodes.GroupId.{GroupId}
use Rattle.table_nodes.specs.declared.nodes.TypeId.{TypeId}
use Rattle.table_nodes.specs.declared.table.Table.{Table}
use Rattle.table_making.specs.declared.origin.GroupOrigin.{GroupOrigin}
use Rattle.table_making.specs.declared.origin.GroupOrigin.TheVariants as G
use Rattle.table_making.specs.declared.origin.TypeOrigin.{TypeOrigin}
use Rattle.table_making.specs.declared.origin.TypeOrigin.TheVariants as T
use Rattle.check_recursion.specs.declared.graph.Ranks.{Ranks}
use Rattle.check_recursion.specs.declared.node.Node.TheVariants as N
use Rattle.check_recursion.specs.Order.{rank}

-- Twice the rank of the node that it is of. An entry is above its rounds, which are of the same row. A word asks nothing else.

abbrev pub type_rank : Ranks → TypeOrigin → ℕ
type_rank r (T.Row n) = 2 * rank r (N.Row n)
type_rank r (T.Instance k) = 2 * rank r (N.Name k)
type_rank r (T.Chosen (Some n)) = 2 * rank r (N.Chosen n)
type_rank r (T.Chosen None) = 0
type_rank r (T.Word n) = 0

abbrev pub group_rank : Ranks → GroupOrigin → ℕ
group_rank r (G.Alternatives (Some n)) = 2 * rank r (N.Row n)
group_rank r (G.Alternatives None) = 0
group_rank r (G.Sequence n) = 2 * rank r (N.Row n)
group_rank r (G.Entry n) = 2 * rank r (N.Row n) + 1
group_rank r (G.Round n) = 2 * rank r (N.Row n)

-- Each number up to the greatest rank is the rank of a type or a group: none is left out. All but 0, which is also the rank of
-- what is not there, are ranks of the table's own types and groups, so the greatest is at most the number of these.
abbrev pub LeavesNoRankOut : Table → Type 0
LeavesNoRankOut table = (r : ℕ) → r ≤ ranks_of table → (a : Name TypeId GroupId) × (rank_of table a ≡ r)

-- These are just the ranks that types and groups have, in order and each once.
pub record AreUsed (types groups used : List ℕ) : Type 0 where
  pub increasing : IsStrictlyIncreasing used
  pub all : (a : Name TypeId GroupId) → Contains used (rank_in types groups a)
  pub only : (n : ℕ) → Contains used n → (a : Name TypeId GroupId) × (rank_in types groups a ≡ n)

-- how many of these ranks are lower
abbrev pub place_of : List ℕ → ℕ → ℕ
place_of [] r = 0
place_of (n ∷ used) r = cond (nat_lt n r) 1 0 + place_of used r

-- The ranks by_types and by_groups are the places that types and groups have among the ranks that are used.
pub record ArePlaces (types groups by_types by_groups : List ℕ) : Type 0 where
  pub used : List ℕ
  pub are_used : AreUsed types groups used
  pub types_are : by_types ≡ map (place_of used) types
  pub groups_are : by_groups ≡ map (place_of used) groups
