use Rattle.std.proofs.Common.{[], ◌∷◌, ◌++◌, Some, sym, ap, ◌∙◌, subst}
use Rattle.lists.proofs.Lemmas.{ok_then}
use Rattle.cddl_language.specs.Reading.{text_of}
use Rattle.check_terms.specs.Definitions.{AreTexts}
use Rattle.tree_nodes.specs.View.{token_of}
use Rattle.check_reading.proofs.OfReader.Defining.{text_added}
use Rattle.check_reading.proofs.OfReader.Growing.{texts_kept}
use Rattle.check_reading.proofs.reader.definitions.add_name.Goals as goal

pub returns-clause-added : goal.returns-clause-added
returns-clause-added c = ok_then c.push_last.result _ _
    (λ u items. λ xs h.
    subst (λ ns. AreTexts c.add_text.new.self.texts ns (xs ++ text_of (token_of c.args.tree.now c.args.leaf) ∷ [])) (sym items)
    (text_added c.in_ok-number.number (text_of (token_of c.args.tree.now c.args.leaf)) (texts_kept c.in_ok-number.ensures.grows h) (c.in_ok-number.ensures.there ∙ ap Some c.text_at.ensures)))
    c.push_last.ensures
