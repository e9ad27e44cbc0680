use Rattle.std.proofs.Common.{subst}
use Rattle.std.proofs.lemmas.Result.{IfOk-weaker}
use Rattle.std.specs.Prelude.{flat_map}
use Rattle.tree_nodes.specs.View.{token_of}
use Rattle.check_reading.specs.Parts.{AreParts, of_entry}
use Rattle.check_reading.proofs.parts.listing.entry_parts.Goals as goal

pub returns-clause-parts : goal.returns-clause-parts
returns-clause-parts c = IfOk-weaker c.parts_of.result _ _ (λ v h. record {
  entries = c.in-Ok.listed.items;
  listed = c.in-Ok.ensures;
  parts = subst (λ xs. AreParts c.parts_of.new.terms v.items (flat_map (of_entry (token_of c.args.tree.now)) xs)) c.deref.ensures.value h;
}) c.parts_of.ensures.parts
