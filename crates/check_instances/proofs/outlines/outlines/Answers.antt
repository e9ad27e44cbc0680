use Rattle.std.proofs.Common.{◌≤◌, ◌+◌, ◌∙◌, refl, sym, subst, drop, drop_of_length-le, length, arith}
use Rattle.check_instances.proofs.OfOutlines.Making.{AreOutlined, all_outlined, next_outlined, none_outlined}
use Rattle.check_instances.proofs.outlines.outlines.Goals as goal

pub loop-definition-init : goal.loop-definition-init
loop-definition-init c =
    let t = c.args.terms.now in
    record {
      grown = c.growing_keeps.ensures.same t;
      texts = refl;
      outlined = λ xs h. subst (AreOutlined t t xs c.args.definitions.now) (sym c.new-outlines.ensures.items) (none_outlined t xs c.args.definitions.now h);
    }

pub loop-definition-preserved : goal.loop-definition-preserved
loop-definition-preserved c =
    let keeps = c.growing_keeps.ensures in
    let start = c.args.terms.now in
    let old = c.loop-definition.terms in
    let new = c.outline_of.new.terms in
    let inv = c.loop-definition.invariant in
    let made = c.in_ok-outline.ensures in
    let i = c.loop-definition.definition-index in
    record {
      grown = keeps.further start old new inv.grown made.grows;
      texts = made.texts ∙ inv.texts;
      outlined = λ xs h. subst (AreOutlined start new xs (drop (i + 1) c.args.definitions.now)) (sym c.in_ok-push.ensures) (next_outlined start old new xs (keeps.definitions old new made.grows) c.loop-definition.outlines.items c.in_ok-outline.outline c.args.definitions.now i c.definition-item.result c.loop-definition-test.true c.definition-item.is (λ x d. made.outline x (keeps.definition start old inv.grown c.definition-item.result x d)) (inv.outlined xs h));
    }

pub returns-clause-outlines : goal.returns-clause-outlines
returns-clause-outlines c = λ xs h.
    let i = c.loop-definition.definition-index in
    let short : length c.args.definitions.now ≤ i = omega (arith, c.loop-definition-test.false) in
    all_outlined c.args.terms.now c.loop-definition.terms xs (drop i c.args.definitions.now) c.loop-definition.outlines.items (drop_of_length-le c.args.definitions.now short) (c.loop-definition.invariant.outlined xs h)
