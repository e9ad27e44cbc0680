use Rattle.std.proofs.Common.{refl, sym, subst}
use Rattle.read_building.specs.Stages.{stack_of, state_of, next_state}
use Rattle.read_building.specs.Turns.{IsOn}
use Rattle.read_building.specs.declared.stage.Stage.TheVariants as stage
use Rattle.read_building.proofs.Runs.{on_one}
use Rattle.read_building.proofs.turn.next_turn.Goals as goal

pub returns-in_ok-next-in-Argument : goal.returns-in_ok-next-in-Argument
returns-in_ok-next-in-Argument c =
    let K = stack_of c.args.frames.now.items in
    let held' = c.go_on_argument.new.held.items in
    let t = next_state c.in_ok-next-in-Argument.next held' (stack_of c.go_on_argument.new.frames.items) in (
      subst (λ s. IsOn c.args.depth c.args.at (state_of s c.args.held.now.items K) c.args.rest.now 1 t) (sym c.in-Argument.is)
          (on_one c.args.depth c.args.at (state_of (stage.Argument c.in-Argument.from c.in-Argument.kind c.in-Argument.partial) c.args.held.now.items K) t c.args.rest.now c.requires.some (c.in_ok-next-in-Argument.ensures.next c.args.at) (λ T. refl)),
      c.in_ok-next-in-Argument.ensures.kept held',
    )

pub returns-in_ok-next-in-Bits : goal.returns-in_ok-next-in-Bits
returns-in_ok-next-in-Bits c =
    let K = stack_of c.args.frames.now.items in
    let held = c.args.held.now.items in
    let t = next_state c.in_ok-next-in-Bits.next held (stack_of c.go_on_bits.new.frames.items) in (
      subst (λ s. IsOn c.args.depth c.args.at (state_of s held K) c.args.rest.now 1 t) (sym c.in-Bits.is)
          (on_one c.args.depth c.args.at (state_of (stage.Bits c.in-Bits.width c.in-Bits.partial) held K) t c.args.rest.now c.requires.some (c.in_ok-next-in-Bits.ensures.next c.args.at held) (λ T. refl)),
      c.in_ok-next-in-Bits.ensures.kept held,
    )

pub returns-in-ChunkArgument : goal.returns-in-ChunkArgument
returns-in-ChunkArgument c =
    let K = stack_of c.args.frames.now.items in
    let held = c.args.held.now.items in
    let t = state_of c.go_on_chunk_argument-stage.result held K in (
      subst (λ s. IsOn c.args.depth c.args.at (state_of s held K) c.args.rest.now 1 t) (sym c.in-ChunkArgument.is)
          (on_one c.args.depth c.args.at (state_of (stage.ChunkArgument c.in-ChunkArgument.from c.in-ChunkArgument.is_text c.in-ChunkArgument.partial) held K) t c.args.rest.now c.requires.some (c.go_on_chunk_argument-stage.ensures.next c.args.at K) (λ T. refl)),
      c.go_on_chunk_argument-stage.ensures.kept,
    )
