use Rattle.std.proofs.Common.{◌≡◌, ◌+◌, ◌∙◌, ℕ, length, refl, subst, arith}
use Rattle.check_terms.specs.Texts.Controls.{membership_view}
use Rattle.check_literals.specs.Sizes.Reach.{AreBelow}
use Rattle.check_literals.proofs.OfSizes.Listing.{lists_more}
use Rattle.check_literals.proofs.sizes.sets.listed.Goals as goal

pub loop-number-init : goal.loop-number-init
loop-number-init c = record {
  listed = c.in_ok-sizes.ensures.listed c.args.sources.now c.args.sizable.now refl;
  ready = record { all = c.in_ok-search.ensures.all; below = (let none = c.in_ok-sizes.ensures.lists in subst (λ (m : ℕ). AreBelow m c.in_ok-search.search.marks.items) (let one : 1 ≡ length c.in_ok-sizes.sizes.lists.items + 1 = omega (arith, none) in one) c.in_ok-search.ensures.below) };
  all = λ j n l. absurd (omega (arith, l));
}

pub loop-number-preserved : goal.loop-number-preserved
loop-number-preserved c =
    let e = c.in_ok-add_controller.ensures in
    record {
      listed = e.listed;
      ready = e.ready;
      all = lists_more (membership_view c.args.membership) c.args.sources.now c.args.terms.now c.args.sizable.now c.loop-number.number c.loop-number.sizes c.add_controller.new.sizes c.loop-number.invariant.listed e.listed e.kept (λ n q. e.added n (c.controller_at-controller.ensures ∙ q)) c.loop-number.invariant.all;
    }
