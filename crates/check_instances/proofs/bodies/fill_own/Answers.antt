use Rattle.std.proofs.Common.{◌∙◌, ◌≤◌, ◌+◌, sym, subst, drop, drop_of_length-le, length, arith}
use Rattle.check_terms.specs.Filled.{term_trees}
use Rattle.check_instances.proofs.Meaning.{AreDone, all_done, next_done}
use Rattle.check_instances.proofs.bodies.fill_own.Goals as goal

pub loop-place-preserved : goal.loop-place-preserved
loop-place-preserved c =
    let keeps = c.patterns_grow.ensures in
    let old = c.args.terms.now in
    let now = c.loop-place.terms in
    let new = c.fill_at.new.terms in
    let grown = c.loop-place.invariant.grown in
    let grows = c.in_ok-body.ensures.grows in
    let i = c.loop-place.place-index in
    record {
      grown = keeps.further old now new grown grows;
      texts = c.in_ok-body.ensures.texts ∙ c.loop-place.invariant.texts;
      done = λ ds all ts before at are trees bodies. subst (AreDone old new all ds ts before (drop (i + 1) c.args.places.now)) (sym c.in_ok-push.ensures) (next_done old now new all ds ts before c.loop-place.bodies.items (keeps.body now new grows) c.in_ok-body.body c.args.places.now i 0 c.loop-place-test.true (λ d e. c.in_ok-body.ensures.stands all d ts e (keeps.patterns old now grown c.args.patterns.now all are) (keeps.trees old now grown c.args.arguments.now (term_trees ts) trees)) (c.loop-place.invariant.done ds all ts before at are trees bodies));
    }

pub returns-clause-stand : goal.returns-clause-stand
returns-clause-stand c = λ ds all ts before at are trees bodies.
    let i = c.loop-place.place-index in
    let short : length c.args.places.now ≤ i = omega (arith, c.loop-place-test.false) in
    all_done c.args.terms.now c.loop-place.terms all ds ts before (drop i c.args.places.now) c.loop-place.bodies.items (drop_of_length-le c.args.places.now short) (c.loop-place.invariant.done ds all ts before at are trees bodies)
