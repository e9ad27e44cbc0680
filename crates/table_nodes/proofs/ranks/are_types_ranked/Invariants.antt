use Rattle.std.proofs.Common.{ℕ, ◌<◌, slice_get, slice_index_or}
use Rattle.cddl_meaning.specs.Ranks.Flags.{IsTypeRanked}
use Rattle.table_nodes.specs.Nodes.{type_or_none}
use Rattle.table_nodes.specs.Ranks.{type_rank_in, group_rank_in}
use Rattle.table_nodes.proofs.ranks.are_types_ranked.Given as goal

abbrev pub invariant-loop-i : goal.invariant-loop-i
invariant-loop-i l = (n : ℕ) → n < l.i → IsTypeRanked (type_rank_in l.types) (group_rank_in l.groups) (slice_index_or l.types n 0) (type_or_none (slice_get l.nodes n))
