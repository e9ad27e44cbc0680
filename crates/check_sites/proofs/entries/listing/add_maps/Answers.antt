use Rattle.std.proofs.Common.{refl}
use Rattle.check_sites.specs.declared.sites.site.Found.{Found}
use Rattle.check_sites.proofs.OfEntries.Adding.{continues_first, continues_last, continues_next}
use Rattle.check_sites.proofs.OfEntries.Looping.{next_site, no_site, site_from, sites_from}
use Rattle.check_sites.proofs.entries.listing.add_maps.Goals as goal

pub loop-site-init : goal.loop-site-init
loop-site-init c = continues_first Found sites_from _ _

pub loop-site-preserved : goal.loop-site-preserved
loop-site-preserved c = continues_next Found sites_from _ _ _ site_from next_site _ _ c.site-item.result c.loop-site-test.true c.site-item.is c.in_ok-add_map.ensures c.loop-site.invariant

pub returns : goal.returns
returns c = continues_last Found sites_from _ _ _ no_site _ _ c.loop-site-test.false refl c.loop-site.invariant
