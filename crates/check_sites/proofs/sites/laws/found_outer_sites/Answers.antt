use Rattle.cddl_language.specs.Sites.{outer_sites}
use Rattle.check_sites.specs.Sites.View.{outside}
use Rattle.check_sites.proofs.OfSites.Containing.{from_outside, in_outside, stands, was_found}
use Rattle.check_sites.proofs.sites.laws.found_outer_sites.Goals as goal

pub returns-clause-outside : goal.returns-clause-outside
returns-clause-outside c = from_outside

pub returns-clause-found : goal.returns-clause-found
returns-clause-found c = λ read rs fs e f h is. stands outer_sites read rs (outside fs) e f (in_outside fs f is h)

pub returns-clause-every : goal.returns-clause-every
returns-clause-every c = λ read rs fs e. was_found outer_sites read rs (outside fs) e
