use Rattle.std.proofs.Common.{◌≡◌, ℕ, ◌/◌, get_or, Some, None, IfSome, refl, sym, ap, ◌∙◌, subst}
use Rattle.read_building.specs.Building as building
use Rattle.read_items.specs.Arguments.{info_view}
use Rattle.read_building.specs.Stages.{stack_of, next_state, IsNext}
use Rattle.read_building.specs.Turns.{IsKept}
use Rattle.read_building.proofs.Runs.{on_one}
use Rattle.read_building.proofs.turn.turn_byte.Goals as goal

pub returns-in-Some : goal.returns-in-Some
returns-in-Some c =
    let fs = c.args.frames.now.items in
    let K = stack_of fs in
    let K' = stack_of c.begin_item.new.frames.items in
    let held = c.begin_item.new.held.items in
    let b : ℕ = get_or c.args.rest.now 0 0 in
    let begun = building.start c.args.at (b / 32) (info_view c.info_of_byte.result) K in
    let shallow : building.step_in c.args.depth c.args.at (building.item K) b ≡ building.step c.args.at (building.item K) b = c.requires.room in
    let next : begun ≡ Some (next_state c.in-Some.next held K') = subst (λ o. IsNext begun o held K K') c.in-Some.is c.in_ok-next.ensures.next in (
      on_one c.args.depth c.args.at (building.item K) (next_state c.in-Some.next held K') c.args.rest.now c.requires.some
          (shallow ∙ (ap (λ i. building.start c.args.at (b / 32) i K) (sym c.info_of_byte.ensures) ∙ next)) (λ T. refl),
      subst (λ o. IfSome o (λ n. IsKept n held)) c.in-Some.is c.in_ok-next.ensures.kept,
    )

pub returns-in-None : goal.returns-in-None
returns-in-None c =
    let K = stack_of c.args.frames.now.items in
    let K' = stack_of c.begin_item.new.frames.items in
    let held = c.begin_item.new.held.items in
    let b : ℕ = get_or c.args.rest.now 0 0 in
    let begun = building.start c.args.at (b / 32) (info_view c.info_of_byte.result) K in
    let next : (begun ≡ None) × (K' ≡ K) = subst (λ o. IsNext begun o held K K') c.in-None.is c.in_ok-next.ensures.next in
    (ap (λ i. building.start c.args.at (b / 32) i K) (sym c.info_of_byte.ensures) ∙ next.0, c.item_fault.ensures (building.frames_of K), ap building.item next.1)
