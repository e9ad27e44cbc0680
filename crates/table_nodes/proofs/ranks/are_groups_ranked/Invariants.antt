use Rattle.std.proofs.Common.{ℕ, ◌<◌, slice_get, slice_index_or}
use Rattle.cddl_meaning.specs.Ranks.Flags.{IsGroupRankedBy}
use Rattle.table_nodes.specs.Nodes.{group_or_none}
use Rattle.table_nodes.specs.Ranks.{flag_in, group_rank_in}
use Rattle.table_nodes.proofs.ranks.are_groups_ranked.Given as goal

abbrev pub invariant-loop-i : goal.invariant-loop-i
invariant-loop-i l = (n : ℕ) → n < l.i → IsGroupRankedBy (flag_in l.flags) (group_rank_in l.ranks) (slice_index_or l.ranks n 0) (group_or_none (slice_get l.nodes n))
