use Rattle.tree_nodes.specs.View.{token_of}
use Rattle.check_terms.specs.Table.{Grows}
use Rattle.check_reading.specs.Parts.{of_entry}
use Rattle.check_reading.proofs.OfParts.Listing.{AreRead}
use Rattle.check_reading.proofs.parts.listing.parts_of.Given as goal

abbrev pub invariant-loop-entry : goal.invariant-loop-entry
invariant-loop-entry l = record {
  grows : Grows l.fn.terms l.terms;
  read : AreRead (of_entry (token_of l.tree)) l.listed l.terms l.entry-index l.parts.items;
}
