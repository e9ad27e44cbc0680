use Rattle.std.proofs.Common.{◌++◌, option_map, sym, subst}
use Rattle.lists.proofs.Lemmas.{on_ok}
use Rattle.tree_nodes.specs.View.{token_of}
use Rattle.check_reading.specs.Parts.{AreParts, some_placed, wanted}
use Rattle.check_reading.proofs.parts.listing.add_some.Goals as goal

pub returns-in-Some-clause-added : goal.returns-in-Some-clause-added
returns-in-Some-clause-added c = on_ok c.add.result _ _ (λ h ws so. subst (λ o. AreParts c.add.new.terms c.add.new.parts.items (ws ++ some_placed c.args.rule (option_map (wanted (token_of c.args.tree.now)) o))) (sym c.in-Some.is) (h ws so)) c.add.ensures.added
