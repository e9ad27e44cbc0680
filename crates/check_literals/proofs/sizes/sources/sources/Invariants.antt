use Rattle.std.proofs.Common.{◌≡◌, ◌<◌, ℕ, length}
use Rattle.check_terms.specs.Texts.Controls.{membership_view}
use Rattle.check_literals.specs.Sizes.Sources.{source_of, view_at}
use Rattle.check_literals.proofs.sizes.sources.sources.Given as goal

abbrev pub invariant-loop-number : goal.invariant-loop-number
invariant-loop-number l = record {
  all : length l.sources.items ≡ l.number;
  each : (n : ℕ) → n < l.number → view_at l.sources.items n ≡ source_of (membership_view l.membership) l.terms l.closed l.kinds l.literals l.groups n;
}
