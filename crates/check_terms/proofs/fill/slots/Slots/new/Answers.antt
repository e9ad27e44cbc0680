use Rattle.std.proofs.Common.{◌≡◌, ◌<◌, sym, ap, ◌∙◌, take, take-suc, add-one, get_or, nat_eq, length, length-take, arith}
use Rattle.std.specs.HashMap.{get}
use Rattle.check_terms.specs.Fill.Making.{place_in}
use Rattle.check_terms.proofs.OfFill.Placing.{one_slot}
use Rattle.check_terms.proofs.fill.slots.Slots.new.Goals as goal

pub loop-place-preserved : goal.loop-place-preserved
loop-place-preserved c = λ n.
    let i = c.loop-place.place in
    let ks = c.args.parameters.now in
    let within : i < length ks = omega arith in
    let long : i ≡ length (take i ks) = omega (arith, length-take i ks, within) in
    let whole = sym (take-suc ks i 0 within) ∙ ap (λ j. take j ks) (sym (add-one i)) in
    c.in_ok-add_slot.ensures n ∙ one_slot (get nat_eq c.loop-place.places) (take i ks) (get_or ks i 0) i long c.loop-place.invariant n ∙ ap (λ js. place_in js n) whole
