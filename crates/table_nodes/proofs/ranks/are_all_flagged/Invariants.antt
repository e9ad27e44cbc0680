use Rattle.std.proofs.Common.{◌≡◌, ℕ, ◌<◌, slice_get, slice_index_or, true, false}
use Rattle.cddl_meaning.specs.Ranks.Flags.{flag_of}
use Rattle.table_nodes.specs.Nodes.{group_or_none}
use Rattle.table_nodes.specs.Ranks.{flag_in}
use Rattle.table_nodes.proofs.ranks.are_all_flagged.Given as goal

abbrev pub invariant-loop-i : goal.invariant-loop-i
invariant-loop-i l = (n : ℕ) → n < l.i → flag_of (flag_in l.flags) (group_or_none (slice_get l.nodes n)) ≡ true → slice_index_or l.flags n false ≡ true
