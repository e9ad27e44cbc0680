use Rattle.check_sites.proofs.OfEntries.Splicing.{bare_found, bare_only}
use Rattle.check_sites.proofs.entries.laws.bare_groups.Goals as goal

pub returns-clause-found : goal.returns-clause-found
returns-clause-found c = λ t g w. bare_found g w.0 t w.1.0 w.1.1

pub returns-clause-only : goal.returns-clause-only
returns-clause-only c = bare_only
