use Rattle.std.proofs.Common.{[], sym, subst}
use Rattle.check_terms.specs.Fill.Templates.{AreSteps, no_steps}
use Rattle.check_terms.proofs.OfFill.Unfilled.{all_stay}
use Rattle.check_terms.proofs.fill.template.unfilled.Goals as goal

pub returns : goal.returns
returns c = λ t x held. record {
  trees = [];
  are_steps = subst (λ ss. AreSteps t [] [] ss []) (sym c.new.ensures.items) no_steps;
  holds = held;
  is_placed = all_stay x;
}
