use Rattle.std.proofs.Common.{[], ◌∷◌, ◌++◌, List, Some, sym, subst, ap, ◌∙◌, ◌≡◌, slice_get}
use Rattle.std.proofs.lemmas.Option.{same_Some, none-some}
use Rattle.cddl_language.specs.Substitution.{fill_body}
use Rattle.check_terms.specs.declared.definition.Body.{Body}
use Rattle.check_terms.specs.Definitions.{IsBody}
use Rattle.check_terms.specs.Table.{Grows, Table}
use Rattle.check_instances.proofs.Meaning.{known_filled}
use Rattle.check_instances.proofs.bodies.fill_known.Goals as goal
use Rattle.check_instances.proofs.bodies.fill_known.Goals.{in-Some+in_ok-body+in_ok-push, in_default}

pub returns-clause-grows : goal.returns-clause-grows
returns-clause-grows c =
    elim c.match-place.branch [
      | in-Some+in_ok-body+in_ok-push w ↦ subst (Grows c.args.terms.now) (sym w.terms-is) w.in_ok-body.ensures.grows
      | in_default w ↦ subst (Grows c.args.terms.now) (sym w.terms-is) (record { texts = λ n x e. e; rows = λ n r e. e })
    ]

pub returns-clause-texts : goal.returns-clause-texts
returns-clause-texts c =
    elim c.match-place.branch [
      | in-Some+in_ok-body+in_ok-push w ↦ ap (λ (t : Table). t.texts) w.terms-is ∙ w.in_ok-body.ensures.texts
      | in_default w ↦ ap (λ (t : Table). t.texts) w.terms-is
    ]

pub returns-clause-stand : goal.returns-clause-stand
returns-clause-stand c =
    elim c.match-place.branch [
      | in-Some+in_ok-body+in_ok-push w ↦ λ ds all ts at are trees.
          known_filled c.match-place.terms all c.args.place ds ts c.match-place.bodies.items at (λ e. absurd (none-some w.in-Some.place (sym e ∙ w.in-Some.is))) (λ i e. (w.in_ok-body.body, ap (λ v. v.items) w.bodies-is ∙ w.in_ok-push.ensures ∙ ap (λ (bs : List Body). bs ++ w.in_ok-body.body ∷ []) c.new-bodies.ensures.items, λ d h. subst (λ t. IsBody t w.in_ok-body.body (fill_body d.parameters ts d.body)) (sym w.terms-is) (w.in_ok-body.ensures.stands all d ts (subst (λ j. slice_get all j ≡ Some d) (same_Some i w.in-Some.place (sym e ∙ w.in-Some.is)) h) are trees)))
      | in_default w ↦ λ ds all ts at are trees.
          known_filled c.match-place.terms all c.args.place ds ts c.match-place.bodies.items at (λ e. ap (λ v. v.items) w.bodies-is ∙ c.new-bodies.ensures.items) (λ i e. absurd (none-some i (sym w.in_default.is ∙ e)))
    ]
