use Rattle.std.proofs.Common.{◌+◌, ◌<◌, length, take, Some, ap, ◌∙◌, arith}
use Rattle.std.proofs.lemmas.List.{take_all}
use Rattle.std.proofs.Common.{length-take}
use Rattle.cbor_data.specs.Machine.Machine as machine
use Rattle.cbor_data.specs.Machine.Machine.{steps_in}
use Rattle.read_items.proofs.OfForm.Runs.{chunk_part, chunk_whole}
use Rattle.read_items.proofs.form.turn.skip_chunk_body.Goals as goal

pub returns-in-Some : goal.returns-in-Some
returns-in-Some c =
    let bytes = c.args.rest.now in
    λ depth around. record {
      some = omega arith;
      within = omega arith;
      leads = ap (steps_in depth (machine.chunk_body c.args.major c.args.left around)) (take_all (length bytes) bytes (omega arith))
          ∙ (chunk_part depth c.args.major c.args.left around bytes (omega (arith, c.in-Some.ensures)) ∙ ap (λ k. Some (machine.chunk_body c.args.major k around)) (omega (arith, c.in-Some.ensures)));
    }

pub returns-in-None : goal.returns-in-None
returns-in-None c =
    let bytes = c.args.rest.now in
    let more : c.args.left < length bytes = omega (arith, c.in-None.ensures) in
    λ depth around. record {
      some = omega arith;
      within = omega arith;
      leads = chunk_whole depth c.args.major c.args.left around (take (c.args.left + 1) bytes) (omega (arith, length-take (c.args.left + 1) bytes));
    }
