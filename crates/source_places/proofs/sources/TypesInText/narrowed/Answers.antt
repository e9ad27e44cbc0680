use Rattle.std.proofs.Common.{◌≡◌, true, false, Some, ap, sym, subst, ◌∙◌, ◌++◌, ◌∷◌, [], arith, rules}
use Rattle.std.proofs.lemmas.Grind.{common_steps}
use Rattle.source_places.specs.States.{IsStateAfter}
use Rattle.source_places.specs.declared.place.State.{State}
use Rattle.source_places.proofs.Stepping.{gone_by, gone_in, gone_out, ok_then}
use Rattle.source_places.proofs.sources.TypesInText.narrowed.Goals as goal

pub returns-then-not-state : goal.returns-then-not-state
returns-then-not-state c =
    let e : c.args.state.is_inside ≡ false = first_of (search rules, grind (arith, common_steps), cc) in
    λ ids none h. gone_by c.args.self.now c.args.link ids c.args.state e none h

pub returns-in-Some-Instance : goal.returns-in-Some-Instance
returns-in-Some-Instance c = λ ids none h. subst (λ (new : State). IsStateAfter c.args.self.now (ids ++ c.args.link ∷ []) new) (sym c.outside.ensures) (gone_out c.args.self.now c.args.link ids c.args.state c.in-Some-Instance.field-0-0 (sym c.in-Some-Instance.ensures ∙ ap Some c.in-Some-Instance.field-0-is) none h)

pub returns-in_default : goal.returns-in_default
returns-in_default c =
    let e : c.args.state.is_inside ≡ true = first_of (search rules, grind (arith, common_steps), cc) in
    ok_then c.narrowed_to.result _ _ (λ new k ids none h. gone_in c.args.self.now c.args.link ids c.args.state new e none h k.number k.rule k.inside k.found) c.narrowed_to.ensures
