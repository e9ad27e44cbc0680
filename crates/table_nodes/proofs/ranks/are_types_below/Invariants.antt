use Rattle.std.proofs.Common.{◌↔◌, drop}
use Rattle.cddl_meaning.specs.Ranks.Flags.{AreBelow}
use Rattle.table_nodes.specs.Ranks.{type_rank_in}
use Rattle.table_nodes.proofs.ranks.are_types_below.Given as goal

abbrev pub invariant-loop-id : goal.invariant-loop-id
invariant-loop-id l = AreBelow (type_rank_in l.ranks) l.rank l.ids ↔ AreBelow (type_rank_in l.ranks) l.rank (drop l.id-index l.ids)
