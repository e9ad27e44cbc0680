use Rattle.std.proofs.Common.{◌≡◌, ℕ, ◌/◌, get_or, Some, None, refl, sym, ap, ◌∙◌, subst, arith}
use Rattle.cbor_data.specs.Machine.Machine as machine
use Rattle.read_items.specs.Arguments.{info_view}
use Rattle.read_items.specs.Form.Stages.{stack_of, state_of, IsNext}
use Rattle.read_items.proofs.OfForm.Stacks.{stack_length}
use Rattle.read_items.proofs.OfForm.Runs.{on_one}
use Rattle.read_items.proofs.form.turn.turn_item.Goals as goal

pub returns-then-is_too_deep : goal.returns-then-is_too_deep
returns-then-is_too_deep c =
    let fs = c.args.frames.now.items in
    let h = c.if-is_too_deep.ensures (stack_of fs) (stack_length fs ∙ omega arith) in
    (h.0, h.1, refl)

pub returns-in-Some : goal.returns-in-Some
returns-in-Some c =
    let fs = c.args.frames.now.items in
    let K = stack_of fs in
    let K' = stack_of c.begin_item.new.frames.items in
    let b : ℕ = get_or c.args.rest.now 0 0 in
    let begun = machine.start (b / 32) (info_view c.info_of_byte.result) K in
    let shallow : machine.step_in c.args.depth (machine.item K) b ≡ machine.step (machine.item K) b = c.if-is_too_deep.ensures K (stack_length fs ∙ omega arith) in
    let next : begun ≡ Some (state_of c.in-Some.stage K') = subst (λ o. IsNext begun o K K') c.in-Some.is c.in_ok-stage.ensures in
    on_one c.args.depth (machine.item K) c.args.rest.now c.in-Some.stage K' c.requires (shallow ∙ (ap (λ i. machine.start (b / 32) i K) (sym c.info_of_byte.ensures) ∙ next))

pub returns-in-None : goal.returns-in-None
returns-in-None c =
    let K = stack_of c.args.frames.now.items in
    let K' = stack_of c.begin_item.new.frames.items in
    let b : ℕ = get_or c.args.rest.now 0 0 in
    let begun = machine.start (b / 32) (info_view c.info_of_byte.result) K in
    let next : (begun ≡ None) × (K' ≡ K) = subst (λ o. IsNext begun o K K') c.in-None.is c.in_ok-stage.ensures in
    (ap (λ i. machine.start (b / 32) i K) (sym c.info_of_byte.ensures) ∙ next.0, c.item_fault.ensures K, next.1)
