use Rattle.tree_nodes.specs.View.{token_of}
use Rattle.check_sites.specs.Sites.View.{view_found, view_site}
use Rattle.check_reading.proofs.OfWords.Listing.{all_listed, next_listed, none_listed}
use Rattle.check_reading.proofs.OfReader.Growing.{grown}
use Rattle.check_reading.proofs.words.listing.site_words.Goals as goal

pub loop-site-init : goal.loop-site-init
loop-site-init c = record {
  grows = record { texts = λ n x e. e; rows = λ n r e. e };
  read = none_listed (view_found (token_of c.args.tree.now)) c.args.sites.now c.args.terms.now c.new-words.result.items c.new-words.ensures.items;
}

pub returns-in_err-add_some-clause-grows : goal.returns-in_err-add_some-clause-grows
returns-in_err-add_some-clause-grows c = grown _ _ _ c.loop-site.invariant.grows c.in_err-add_some.ensures.grows

pub loop-site-preserved : goal.loop-site-preserved
loop-site-preserved c = record {
  grows = grown _ _ _ c.loop-site.invariant.grows c.in_ok-add_some.ensures.grows;
  read = next_listed (view_found (token_of c.args.tree.now)) c.args.sites.now c.loop-site.terms c.add_some.new.terms c.loop-site.site-index c.site-item.result c.loop-site.words.items c.add_some.new.words.items c.loop-site-test.true c.site-item.is (λ ps so. c.in_ok-add_some.ensures.added ps (view_site (token_of c.args.tree.now) c.site-item.result.site) c.spelled_at-spelled.ensures so) c.loop-site.invariant.read;
}

pub returns-clause-words : goal.returns-clause-words
returns-clause-words c = all_listed (view_found (token_of c.args.tree.now)) c.args.sites.now c.loop-site.terms c.loop-site.site-index c.loop-site.words.items c.loop-site-test.false c.loop-site.invariant.read
