use Rattle.tree_nodes.specs.View.{token_of}
use Rattle.check_reading.specs.Parts.{of_found}
use Rattle.check_reading.proofs.OfParts.Listing.{all_read, next_read, none_read}
use Rattle.check_reading.proofs.OfReader.Growing.{grown}
use Rattle.check_reading.proofs.parts.listing.site_parts.Goals as goal

pub loop-site-init : goal.loop-site-init
loop-site-init c = record {
  grows = record { texts = λ n x e. e; rows = λ n r e. e };
  read = none_read (of_found (token_of c.args.tree.now)) c.args.sites.now c.args.terms.now c.new-parts.result.items c.new-parts.ensures.items;
}

pub returns-in_err-add_site-clause-grows : goal.returns-in_err-add_site-clause-grows
returns-in_err-add_site-clause-grows c = grown _ _ _ c.loop-site.invariant.grows c.in_err-add_site.ensures.grows

pub loop-site-preserved : goal.loop-site-preserved
loop-site-preserved c = record {
  grows = grown _ _ _ c.loop-site.invariant.grows c.in_ok-add_site.ensures.grows;
  read = next_read (of_found (token_of c.args.tree.now)) c.args.sites.now c.loop-site.terms c.add_site.new.terms c.loop-site.site-index c.site-item.result c.loop-site.parts.items c.add_site.new.parts.items c.loop-site-test.true c.site-item.is c.in_ok-add_site.ensures.added c.loop-site.invariant.read;
}

pub returns-clause-parts : goal.returns-clause-parts
returns-clause-parts c = all_read (of_found (token_of c.args.tree.now)) c.args.sites.now c.loop-site.terms c.loop-site.site-index c.loop-site.parts.items c.loop-site-test.false c.loop-site.invariant.read
