-- Ranks in lists, and flags of the groups that may take no item.
use Rattle.std.specs.Prelude.{ℕ, max, List, [], ◌∷◌, Bool, false, slice_index_or}
use Rattle.cddl_meaning.specs.Ranks.Ranked.{Name, a_type, a_group}
use Rattle.table_nodes.specs.declared.nodes.TypeId.{TypeId}
use Rattle.table_nodes.specs.declared.nodes.GroupId.{GroupId}

-- A type or a group for which the list has no rank has the rank 0.
abbrev pub type_rank_in : List ℕ → TypeId → ℕ
type_rank_in ranks n = slice_index_or ranks n.number 0

abbrev pub group_rank_in : List ℕ → GroupId → ℕ
group_rank_in ranks g = slice_index_or ranks g.number 0

abbrev pub rank_in : List ℕ → List ℕ → Name TypeId GroupId → ℕ
rank_in types groups (a_type n) = type_rank_in types n
rank_in types groups (a_group g) = group_rank_in groups g

-- Whether a group may take no item. A group for which the list has no flag takes one, or fails.
abbrev pub flag_in : List Bool → GroupId → Bool
flag_in flags g = slice_index_or flags g.number false

-- the greatest of these numbers, or 0
abbrev pub greatest : List ℕ → ℕ
greatest [] = 0
greatest (n ∷ ns) = max n (greatest ns)
