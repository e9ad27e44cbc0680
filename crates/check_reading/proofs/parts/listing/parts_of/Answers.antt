use Rattle.std.proofs.Common.{[], ◌∷◌, ◌++◌, subst}
use Rattle.tree_nodes.specs.View.{token_of}
use Rattle.check_reading.specs.Parts.{AreParts, of_entry}
use Rattle.check_reading.proofs.OfParts.Listing.{all_read, next_read, none_read}
use Rattle.check_reading.proofs.OfReader.Growing.{grown}
use Rattle.check_reading.proofs.parts.listing.parts_of.Goals as goal

pub loop-entry-init : goal.loop-entry-init
loop-entry-init c = record {
  grows = record { texts = λ n x e. e; rows = λ n r e. e };
  read = none_read (of_entry (token_of c.args.tree.now)) c.args.listed.now c.args.terms.now c.new-parts.result.items c.new-parts.ensures.items;
}

pub returns-in_err-add-clause-grows : goal.returns-in_err-add-clause-grows
returns-in_err-add-clause-grows c = grown _ _ _ c.loop-entry.invariant.grows c.in_err-add.ensures.grows

pub loop-entry-preserved : goal.loop-entry-preserved
loop-entry-preserved c = record {
  grows = grown _ _ _ c.loop-entry.invariant.grows c.in_ok-add.ensures.grows;
  read = next_read (of_entry (token_of c.args.tree.now)) c.args.listed.now c.loop-entry.terms c.add.new.terms c.loop-entry.entry-index c.entry-item.result c.loop-entry.parts.items c.add.new.parts.items c.loop-entry-test.true c.entry-item.is (λ ws so. subst (λ w. AreParts c.add.new.terms c.add.new.parts.items (ws ++ (c.entry-item.result.rule, w) ∷ [])) c.entry_part-part.ensures (c.in_ok-add.ensures.added ws so)) c.loop-entry.invariant.read;
}

pub returns-clause-parts : goal.returns-clause-parts
returns-clause-parts c = all_read (of_entry (token_of c.args.tree.now)) c.args.listed.now c.loop-entry.terms c.loop-entry.entry-index c.loop-entry.parts.items c.loop-entry-test.false c.loop-entry.invariant.read
