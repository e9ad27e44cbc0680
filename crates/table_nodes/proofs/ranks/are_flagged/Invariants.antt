use Rattle.std.proofs.Common.{◌≡◌, drop}
use Rattle.cddl_meaning.specs.Ranks.Flags.{all_flagged}
use Rattle.table_nodes.specs.Ranks.{flag_in}
use Rattle.table_nodes.proofs.ranks.are_flagged.Given as goal

abbrev pub invariant-loop-id : goal.invariant-loop-id
invariant-loop-id l = all_flagged (flag_in l.flags) (drop l.id-index l.ids) ≡ all_flagged (flag_in l.flags) l.ids
