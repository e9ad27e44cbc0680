use Rattle.tree_nodes.specs.View.{token_of}
use Rattle.check_terms.specs.Table.{Grows}
use Rattle.check_reading.specs.Parts.{of_found}
use Rattle.check_reading.proofs.OfParts.Listing.{AreRead}
use Rattle.check_reading.proofs.parts.listing.site_parts.Given as goal

abbrev pub invariant-loop-site : goal.invariant-loop-site
invariant-loop-site l = record {
  grows : Grows l.fn.terms l.terms;
  read : AreRead (of_found (token_of l.tree)) l.sites l.terms l.site-index l.parts.items;
}
