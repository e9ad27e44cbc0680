use Rattle.std.proofs.Common.{◌≡◌, ◌∷◌, ◌<◌, length, take, get_or, sym, ap, ◌∙◌, subst, arith}
use Rattle.cbor_data.specs.Machine.Machine as machine
use Rattle.read_building.specs.Building as building
use Rattle.read_building.specs.Stages.{stack_of}
use Rattle.read_building.proofs.Stacks.{stack_taken}
use Rattle.read_building.proofs.noted.form_within.Goals as goal

pub loop-frame-preserved : goal.loop-frame-preserved
loop-frame-preserved c =
    let fs = c.args.frames.now.items in
    let i = c.loop-frame.frame-index in
    let K = building.frames_of (stack_of (take i fs)) in
    let value = c.deref-frame-items.ensures.value in
    c.in_ok-open.ensures.opened K c.loop-frame.invariant
    ∙ ap machine.item (ap (λ f. f ∷ K) c.form_frame.ensures ∙ sym (stack_taken fs i c.frame-item.result (subst (λ xs. i < length xs) value (omega arith)) (subst (λ xs. c.frame-item.result ≡ get_or xs i c.frame-item.result) value c.frame-item.is)))
