use Rattle.std.proofs.Common.{Some, reverse, ap, ◌∙◌, subst}
use Rattle.item_nodes.specs.View.{view}
use Rattle.cbor_item.specs.Place.Paths.{paths}
use Rattle.cbor_item.specs.Place.Elements.{element_or_rest}
use Rattle.cbor_item.specs.Place.Walked.{Ends}
use Rattle.cbor_item.specs.declared.place.path.Walk.TheVariants.{Arrived}
use Rattle.cbor_item.proofs.OfPlace.Arriving.{told_path, missed_path}
use Rattle.cbor_item.proofs.place.path.path_text.Goals as goal

pub returns-in_ok-push-in-Arrived : goal.returns-in_ok-push-in-Arrived
returns-in_ok-push-in-Arrived c =
    let x = view c.args.item.now in
    let old = c.new-text.result.items in
    let new = c.push_path.new.out.items in
    let arrived : Ends (element_or_rest (paths x) c.args.place) old new Arrived = subst (Ends (element_or_rest (paths x) c.args.place) old new) c.in-Arrived.is c.in_ok-push_path.ensures in
    ap Some (c.reverse.ensures.items ∙ ap reverse c.in_ok-push-in-Arrived.ensures.items)
    ∙ told_path x c.args.place new (subst (λ l. Ends (element_or_rest (paths x) c.args.place) l new Arrived) c.new-text.ensures.items arrived)

pub returns-in-Passed : goal.returns-in-Passed
returns-in-Passed c =
    let x = view c.args.item.now in
    let old = c.new-text.result.items in
    let new = c.push_path.new.out.items in
    missed_path x c.args.place old new c.in-Passed.field-0 (subst (Ends (element_or_rest (paths x) c.args.place) old new) c.in-Passed.is c.in_ok-push_path.ensures)
