use Rattle.check_sites.specs.declared.sites.site.Found.{Found}
use Rattle.check_sites.proofs.OfEntries.Adding.{Continues}
use Rattle.check_sites.proofs.OfEntries.Looping.{sites_from}
use Rattle.check_sites.proofs.entries.listing.add_maps.Given as goal

abbrev pub invariant-loop-site : goal.invariant-loop-site
invariant-loop-site l = Continues Found sites_from l.fn.found.items l.found.items l.sites l.site-index
