use Rattle.cddl_language.specs.Sites.{sites}
use Rattle.check_sites.proofs.OfSites.Containing.{stands, was_found}
use Rattle.check_sites.proofs.sites.laws.found_sites.Goals as goal

pub returns-clause-found : goal.returns-clause-found
returns-clause-found c = stands sites

pub returns-clause-every : goal.returns-clause-every
returns-clause-every c = was_found sites
