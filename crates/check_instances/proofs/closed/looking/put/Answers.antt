use Rattle.std.proofs.Common.{◌≡◌, ◌∙◌, ap, sym, ℕ, arith}
use Rattle.std.proofs.lemmas.Bool.{ltb-false, ltb-true}
use Rattle.check_instances.specs.Closed.Looking.{placed}
use Rattle.check_instances.proofs.OfClosed.Rows.{none_placed, placed_written}
use Rattle.check_instances.proofs.closed.looking.put.Goals as goal

pub returns-in-Some : goal.returns-in-Some
returns-in-Some c =
    let os = c.args.places.now.items in
    let same : c.in-Ok.place ≡ c.args.place = omega (arith, c.in-Ok.ensures) in
    placed_written c.args.row c.in-Ok.place os (ltb-true _ _ (sym c.in-Some.ensures.item.0)) ∙ ap (λ (p : ℕ). placed c.args.row p os) same

pub returns-in_default-get_mut : goal.returns-in_default-get_mut
returns-in_default-get_mut c = none_placed c.args.row c.args.place c.args.places.now.items (ltb-false _ _ (sym c.in_default-get_mut.ensures.item.0))
