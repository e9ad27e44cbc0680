use Rattle.std.proofs.Common.{◌≡◌, ℕ, ◌+◌, ◌<◌, ◌++◌, ◌∷◌, [], sym, subst, rules}
use Rattle.check_terms.specs.Texts.Controls.{membership_view}
use Rattle.check_literals.specs.Sizes.Sources.{source_of, view_at}
use Rattle.check_literals.proofs.OfSizes.Rows.{views_more}
use Rattle.check_literals.proofs.sizes.sources.sources.Goals as goal

pub loop-number-preserved : goal.loop-number-preserved
loop-number-preserved c = record {
  all = search rules;
  each =
      let P = λ (n : ℕ). source_of (membership_view c.args.membership) c.args.terms.now c.args.closed.now c.args.kinds.now c.args.literals.now c.args.groups.now n in
      let more : c.push.new.self.items ≡ c.loop-number.sources.items ++ c.in_ok-source.source ∷ [] = search rules in
      subst (λ ss. (n : ℕ) → n < c.loop-number.number + 1 → view_at ss n ≡ P n) (sym more) (views_more P c.loop-number.sources.items c.in_ok-source.source c.loop-number.number c.loop-number.invariant.all c.loop-number.invariant.each c.in_ok-source.ensures);
}
