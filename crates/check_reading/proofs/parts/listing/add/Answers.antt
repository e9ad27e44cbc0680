use Rattle.std.proofs.Common.{refl}
use Rattle.lists.proofs.Lemmas.{on_ok}
use Rattle.tree_nodes.specs.View.{token_of}
use Rattle.check_reading.specs.Parts.{wanted}
use Rattle.check_reading.proofs.OfParts.Listing.{one_added}
use Rattle.check_reading.proofs.parts.listing.add.Goals as goal

pub returns-clause-added : goal.returns-clause-added
returns-clause-added c = on_ok c.push.result _ _ (λ e ws so.
    let old = c.args.terms.now in
    let new = c.read_node.new.terms in
    one_added old new (c.growing_keeps.ensures.tree old new c.in_ok-row.ensures.grows) c.args.parts.now.items c.push.new.items.items (record { rule = c.args.rule; at = c.args.part.at; question = c.args.part.question; row = c.in_ok-row.row }) ws (c.args.rule, wanted (token_of c.args.tree.now) c.args.part) e (record { rule = refl; at = refl; question = refl; holds = c.in_ok-row.ensures.stands }) so) c.push.ensures
