use Rattle.std.proofs.Common.{◌≡◌, ◌≤◌, ◌-◌, length, take}
use Rattle.read_building.specs.Builds.{IsRun}
use Rattle.read_building.specs.Stages.{stack_of, state_of}
use Rattle.read_building.specs.Turns.{IsHeld}
use Rattle.read_building.specs.declared.stage.Stage.TheVariants as stage
use Rattle.read_building.proofs.build.build_on.Given as goal

-- the builder is where the bytes so far lead
abbrev pub invariant-loop-used : goal.invariant-loop-used
invariant-loop-used l = record {
  within : l.used ≤ length l.piece;
  fresh : l.stage ≡ stage.Item;
  kept : IsHeld l.here l.held.items;
  run : IsRun l.depth l.at (state_of l.fn.stage l.fn.held.items (stack_of l.fn.frames.items)) (take l.used l.piece) (state_of l.here l.held.items (stack_of l.frames.items));
}

abbrev pub decreases-loop-used : goal.decreases-loop-used
decreases-loop-used l = length l.piece - l.used
