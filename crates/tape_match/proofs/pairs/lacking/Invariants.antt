use Rattle.std.proofs.Common.{◌≡◌, ◌<◌, ◌≤◌, ◌-◌, ℕ, true, Some, length, get_or, slice_get}
use Rattle.cddl_meaning.specs.Forms.{MapEntry}
use Rattle.table_nodes.specs.Nodes.{entries_view}
use Rattle.table_nodes.specs.declared.nodes.TypeId.{TypeId}
use Rattle.tape_match.specs.Says.{is_enough}
use Rattle.tape_match.proofs.pairs.lacking.Given as goal

abbrev pub invariant-loop-entry : goal.invariant-loop-entry
invariant-loop-entry l = (i : ℕ) (e : MapEntry TypeId) → l.fn.from ≤ i → i < l.number → slice_get (entries_view l.fn.entries) i ≡ Some e → is_enough e (get_or l.fn.counts i 0) ≡ true

abbrev pub decreases-loop-entry : goal.decreases-loop-entry
decreases-loop-entry l = length l.fn.entries - l.number
