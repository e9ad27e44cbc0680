use Rattle.std.proofs.Common.{ℕ, ◌+◌, ◌-◌, ◌≤◌, List, ◌∷◌, length, None}
use Rattle.read_building.specs.Building as building
use Rattle.read_building.specs.Taking.{AreTaken}
use Rattle.read_building.specs.Stages.{frame_of}
use Rattle.read_building.specs.declared.frame.Frame.TheVariants.{Map}
use Rattle.read_building.proofs.members.take_pairs.Given as goal

-- the container has the parts so far
abbrev pub invariant-loop-used : goal.invariant-loop-used
invariant-loop-used l = record {
  within : l.used ≤ length l.bytes;
  taken : (depth at : ℕ) (around : List building.Frame) → length around + 1 + l.room ≤ depth → AreTaken depth at (building.item (frame_of (Map l.fn.left l.fn.pairs None) ∷ around)) l.bytes l.used (building.item (frame_of (Map l.left l.pairs None) ∷ around));
}

abbrev pub decreases-loop-used : goal.decreases-loop-used
decreases-loop-used l = length l.bytes - l.used
