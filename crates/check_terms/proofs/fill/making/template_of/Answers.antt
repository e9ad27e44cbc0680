use Rattle.std.proofs.Common.{sym, subst, ap, ◌∙◌, nat_eq}
use Rattle.std.specs.HashMap.{get}
use Rattle.std.specs.Map.{lookup}
use Rattle.check_terms.proofs.OfFill.Placing.{IsMade, all_made, next_made, no_elements, none_made}
use Rattle.check_terms.proofs.fill.making.template_of.Goals as goal

pub loop-number-init : goal.loop-number-init
loop-number-init c = λ ps right unfolded.
    let places = get nat_eq c.new-places.result in
    subst (λ ss. IsMade c.args.terms.now ps c.args.body places ss c.args.rows.items) (sym c.new-steps.ensures.items) (none_made c.args.terms.now ps c.args.body places c.args.rows.items (λ n. ap (lookup (nat_eq n)) c.new-places.ensures.empty) unfolded)

pub loop-number-preserved : goal.loop-number-preserved
loop-number-preserved c = λ ps right unfolded.
    let t = c.args.terms.now in
    let slots = get nat_eq c.args.slots.now in
    let places = get nat_eq c.loop-number.places in
    let now = get nat_eq c.add_step.new.places in
    let steps = c.loop-number.steps.items in
    let added = c.in_ok-add_step.ensures in
    next_made t ps c.one_tree.ensures slots right c.args.body places steps c.in-Some.number c.loop-number.rows.items c.pop.new.self.items c.in-Some.ensures.items (c.loop-number.invariant ps right unfolded) c.rows_stand.ensures.some c.step_of-step.result c.step_of-step.ensures now added.places c.add_step.new.steps.items added.steps

pub returns : goal.returns
returns c = λ ps x right unfolded held. all_made c.args.terms.now ps c.one_tree.ensures c.args.body (get nat_eq c.loop-number.places) c.loop-number.steps c.loop-number.rows.items c.place_of-place.result x (no_elements c.loop-number.rows.items (sym c.loop-number.rows.ok.0 ∙ c.in_default.ensures.cases.0)) c.place_of-place.ensures (c.loop-number.invariant ps right unfolded) held
