use Rattle.cddl_language.specs.Faults.{HasBadController, HasBadRange, HasNotLiteral, HasNotUnwrappable, HasRecursion, rules}
use Rattle.cddl_language.specs.MapFaults.{HasMapShape, HasNoKey, HasTooManyAlternatives}
use Rattle.cddl_check.proofs.Lists.{of_root}
use Rattle.cddl_check.proofs.all_faults.faults_of.Goals as goal

pub returns-clause-found : goal.returns-clause-found
returns-clause-found c s worth t root refs e tokens right reading =
    let rooted = reading.rooted.rooted in
    let maps = c.in_ok-maps.ensures.found s worth t root refs reading in
    record {
      not_unwrappable = of_root s root rooted (HasNotUnwrappable s) _ (c.in_ok-not_unwrappable.ensures s worth t root refs e reading);
      recursion = of_root s root rooted (HasRecursion s) _ (c.in_ok-recursion.ensures s worth t root refs reading (c.in_ok-order.ensures.order s worth t root refs reading));
      not_literal = of_root s root rooted (HasNotLiteral s worth) _ (c.in_ok-not_literal.ensures s worth t root refs right reading);
      bad_range = of_root s root rooted (HasBadRange s worth) _ (c.in_ok-bad_range.ensures s worth t root refs tokens right reading);
      bad_controller = of_root s root rooted (HasBadController s worth) _ (c.in_ok-bad_controller.ensures s worth t root refs right reading);
      no_key = of_root s root rooted (HasNoKey (rules s)) _ maps.no_key;
      map_shape = of_root s root rooted (HasMapShape (rules s)) _ maps.map_shape;
      too_many_alternatives = of_root s root rooted (HasTooManyAlternatives (rules s)) _ maps.too_many_alternatives;
    }
