use Rattle.tree_nodes.specs.View.{token_of}
use Rattle.check_sites.specs.Sites.View.{view_found}
use Rattle.check_terms.specs.Table.{Grows}
use Rattle.check_reading.proofs.OfWords.Listing.{AreListed}
use Rattle.check_reading.proofs.words.listing.site_words.Given as goal

abbrev pub invariant-loop-site : goal.invariant-loop-site
invariant-loop-site l = record {
  grows : Grows l.fn.terms l.terms;
  read : AreListed (view_found (token_of l.tree)) l.sites l.terms l.site-index l.words.items;
}
