use Rattle.std.proofs.Common.{◌≡◌, ◌≤◌, [], Some, sym, subst, ap, ◌∙◌, drop, drop_of_length-le, length, refl, arith}
use Rattle.std.specs.Prelude.{IfOk}
use Rattle.check_terms.specs.Fill.Filling.{part}
use Rattle.check_terms.proofs.OfFill.Filled.{AreFilled, IsFilled, all_filled, body_filled, next_filled, none_filled, ok_then}
use Rattle.check_terms.proofs.fill.template.Template.fill.Goals as goal

pub loop-step-init : goal.loop-step-init
loop-step-init c =
    let t = c.args.terms.now in
    let steps = c.args.self.now.steps.items in
    subst (AreFilled t t steps steps c.args.arguments.now) (sym c.new-made.ensures.items) (none_filled t steps c.args.arguments.now (c.growing_keeps.ensures.same t))

pub loop-step-preserved : goal.loop-step-preserved
loop-step-preserved c = next_filled c.growing_keeps.ensures.further c.growing_keeps.ensures.tree c.args.terms.now c.loop-step.terms c.args.self.now.steps.items _ c.args.arguments.now c.loop-step.made.items c.loop-step.step-index _ c.deref-step-items.result.now c.deref.result.now c.push.new.items.items c.fill_step.new.terms c.in_ok-number.number c.deref-step-items.ensures.value c.loop-step-test.true c.deref.ensures.value c.in_ok-push.ensures c.loop-step.invariant c.in_ok-number.ensures.grows c.in_ok-number.ensures.texts c.in_ok-number.ensures.fills refl

pub returns-clause-fills : goal.returns-clause-fills
returns-clause-fills c =
    let m = c.args.self.now in
    let steps = m.steps.items in
    let old = c.args.terms.now in
    let now = c.loop-step.terms in
    let made = c.loop-step.made.items in
    let i = c.loop-step.step-index in
    let keeps = c.growing_keeps.ensures in
    let short : length steps ≤ i = omega (arith, c.loop-step-test.false, ap length c.deref-step-items.ensures.value) in
    let none : drop i steps ≡ [] = drop_of_length-le steps short in
    let last = c.part.ensures ∙ ap (λ ns. part ns m.place (Some m.body)) c.deref-2.ensures.value in
    subst (λ r. IfOk r (IsFilled old now m c.args.arguments.now)) (sym c.ok_or.ensures.value) (ok_then c.part.result _ (IsFilled old now m c.args.arguments.now) (λ n e ps ys x h held. body_filled now ps ys h.trees made m.place m.body n x (all_filled keeps.further keeps.tree old now steps (drop i steps) c.args.arguments.now made none c.loop-step.invariant ps ys h.trees h.are_steps held) h.is_placed (keeps.tree old now c.loop-step.invariant.grown (Some m.body) x h.holds) (sym last ∙ e)))
