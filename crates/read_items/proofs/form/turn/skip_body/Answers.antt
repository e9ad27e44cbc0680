use Rattle.std.proofs.Common.{◌+◌, ◌<◌, length, take, Some, sym, ap, ◌∙◌, arith}
use Rattle.std.proofs.lemmas.List.{take_all}
use Rattle.std.proofs.Common.{length-take}
use Rattle.cbor_data.specs.Machine.Machine as machine
use Rattle.cbor_data.specs.Machine.Machine.{steps_in}
use Rattle.read_items.specs.Form.Stages.{stack_of}
use Rattle.read_items.proofs.OfForm.Runs.{body_part, body_whole}
use Rattle.read_items.proofs.form.turn.skip_body.Goals as goal

pub returns-in-Some : goal.returns-in-Some
returns-in-Some c =
    let bytes = c.args.rest.now in
    let K = stack_of c.args.frames.now.items in
    λ depth. record {
      some = omega arith;
      within = omega arith;
      leads = ap (steps_in depth (machine.body c.args.left K)) (take_all (length bytes) bytes (omega arith))
          ∙ (body_part depth c.args.left K bytes (omega (arith, c.in-Some.ensures)) ∙ ap (λ k. Some (machine.body k K)) (omega (arith, c.in-Some.ensures)));
    }

pub returns-in-None : goal.returns-in-None
returns-in-None c =
    let bytes = c.args.rest.now in
    let K = stack_of c.args.frames.now.items in
    let more : c.args.left < length bytes = omega (arith, c.in-None.ensures) in
    λ depth. record {
      some = omega arith;
      within = omega arith;
      leads = body_whole depth c.args.left K (take (c.args.left + 1) bytes) (omega (arith, length-take (c.args.left + 1) bytes)) ∙ ap Some (sym c.end_item.ensures);
    }
