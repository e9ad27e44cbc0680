use Rattle.std.proofs.Common.{◌↔◌, drop}
use Rattle.cddl_meaning.specs.Ranks.Flags.{LeadsDownBy}
use Rattle.table_nodes.specs.Ranks.{flag_in, group_rank_in}
use Rattle.table_nodes.proofs.ranks.are_parts_below.Given as goal

abbrev pub invariant-loop-id : goal.invariant-loop-id
invariant-loop-id l = LeadsDownBy (flag_in l.flags) (group_rank_in l.ranks) l.rank l.ids ↔ LeadsDownBy (flag_in l.flags) (group_rank_in l.ranks) l.rank (drop l.id-index l.ids)
