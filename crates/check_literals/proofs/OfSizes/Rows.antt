-- The sources of rows, one row after the other.
use Rattle.std.proofs.Common.{◌≡◌, inl, inr, ℕ, ◌+◌, ◌<◌, List, [], ◌∷◌, ◌++◌, length, ap, subst, ◌∙◌, arith}
use Rattle.lists.proofs.Lemmas.{before_or_not, push_there as at_push}
use Rattle.check_literals.specs.declared.sizes.sources.Source.{Source}
use Rattle.check_literals.specs.Sizes.Sources.{View, source_view, view_at, viewed}
use Rattle.check_literals.proofs.OfSizes.Lists.{below_push}

pub views_more : (P : ℕ → View) (ss : List Source) (s : Source) (k : ℕ) → length ss ≡ k → ((n : ℕ) → n < k → view_at ss n ≡ P n) → source_view s ≡ P k → (n : ℕ) → n < k + 1 → view_at (ss ++ s ∷ []) n ≡ P n
views_more P ss s k e h g n l = elim (before_or_not n k) [
  | inl b ↦ (let w : n < length ss = omega (arith, b, e) in ap viewed (below_push ss s n w) ∙ h n b)
  | inr b ↦ (let w : k ≡ n = omega (arith, b, l) in subst (λ m. view_at (ss ++ s ∷ []) m ≡ P m) w (subst (λ m. view_at (ss ++ s ∷ []) m ≡ P k) e (ap viewed (at_push ss s) ∙ g)))
]
