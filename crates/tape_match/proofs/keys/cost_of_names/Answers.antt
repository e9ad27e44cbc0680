use Rattle.std.proofs.Common.{◌≡◌, true, sym, ap, ◌∙◌, subst}
use Rattle.cbor_data.specs.Same.{same_value}
use Rattle.cddl_meaning.specs.Forms.{Plain}
use Rattle.lists.proofs.Lemmas.{same_some}
use Rattle.table_nodes.specs.Language.{language_of}
use Rattle.table_nodes.specs.Nodes.{test_view, type_view}
use Rattle.tape_match.proofs.Left.{literal_says}
use Rattle.tape_match.proofs.keys.cost_of_names.Goals as goal

pub returns-in-Some-Plain-Equals : goal.returns-in-Some-Plain-Equals
returns-in-Some-Plain-Equals c = λ some v x key same.
    let l = language_of c.args.table.now in
    let named = c.behind_names-names.result.0 in
    let is = c.in-Some-Plain-Equals.ensures.found ∙ (ap type_view c.in-Some-Plain-Equals.field-0-is ∙ ap (λ t. Plain (test_view t)) c.in-Some-Plain-Equals.field-0-0-is) in
    let value = same_some (sym key ∙ c.behind_names-names.ensures.keyed _ is) in
    c.behind_names-names.ensures.stands x true 1 (literal_says l (l.type_at named) _ x is (subst (λ u. same_value x u ≡ true) value same))
