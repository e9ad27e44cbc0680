use Rattle.std.proofs.Common.{◌≡◌, get_or, refl, sym, ap, ◌∙◌, arith}
use Rattle.cbor_data.specs.Machine.Machine as machine
use Rattle.read_building.specs.Building as building
use Rattle.read_building.specs.Stages.{stack_of, string_major}
use Rattle.read_building.proofs.Holding.{chunk_other, chunk_begins}
use Rattle.read_building.proofs.turn.turn_chunk.Goals as goal

pub returns-then-byte-major : goal.returns-then-byte-major
returns-then-byte-major c =
    let K = stack_of c.args.frames.now.items in
    let b = get_or c.args.rest.now 0 0 in
    let m = string_major c.args.is_text in
    let same : c.major_of_string-major.result ≡ m = c.major_of_string-major.ensures in
    λ depth. (chunk_other c.args.at m b c.args.held.now.items K (omega arith) (omega arith), ap (λ k. machine.refused_kind (machine.chunk k (building.frames_of K)) b) (sym same) ∙ c.chunk_fault.ensures (building.frames_of K), refl)

pub returns-in-None : goal.returns-in-None
returns-in-None c =
    let K = stack_of c.args.frames.now.items in
    let b = get_or c.args.rest.now 0 0 in
    let m = string_major c.args.is_text in
    let held = c.args.held.now.items in
    let same : c.major_of_string-major.result ≡ m = c.major_of_string-major.ensures in
    λ depth. (
      chunk_begins c.args.at m b held K (omega arith) (omega arith) ∙ (ap (λ i. building.start_chunk c.args.at m i held K) (sym c.info_of_byte.ensures) ∙ c.in-None.ensures.next K),
      ap (λ k. machine.refused_kind (machine.chunk k (building.frames_of K)) b) (sym same) ∙ c.chunk_fault-in-None.ensures (building.frames_of K),
      refl,
    )
