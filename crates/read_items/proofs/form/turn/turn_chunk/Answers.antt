use Rattle.std.proofs.Common.{get_or, refl, sym, ap, ◌∙◌, arith}
use Rattle.cbor_data.specs.Machine.Machine as machine
use Rattle.read_items.specs.Form.Stages.{stack_of}
use Rattle.read_items.proofs.OfForm.Heads.{chunk_other, chunk_begins}
use Rattle.read_items.proofs.form.turn.turn_chunk.Goals as goal

pub returns-then-byte-major : goal.returns-then-byte-major
returns-then-byte-major c =
    let K = stack_of c.args.frames.now.items in
    λ depth. (chunk_other c.args.major (get_or c.args.rest.now 0 0) K (omega arith) (omega arith), c.chunk_fault.ensures K, refl)

pub returns-in-None : goal.returns-in-None
returns-in-None c =
    let K = stack_of c.args.frames.now.items in
    λ depth. (
      chunk_begins c.args.major (get_or c.args.rest.now 0 0) K (omega arith) (omega arith)
          ∙ (ap (λ i. machine.start_chunk c.args.major i K) (sym c.info_of_byte.ensures) ∙ sym (c.in-None.ensures K)),
      c.chunk_fault-in-None.ensures K,
      refl,
    )
