use Rattle.cddl_literal.proofs.OneMeaning.{quoted_stops, prefixed_stops}
use Rattle.cddl_literal.proofs.laws.closes_at_stop.Goals as goal

pub returns : goal.returns
returns c = record {
  quoted = λ q s a b p v h k. quoted_stops h k;
  prefixed = λ x s a b e p d h o k. prefixed_stops x s a b e p d h o k;
}
