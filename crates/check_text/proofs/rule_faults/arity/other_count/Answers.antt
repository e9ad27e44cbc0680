use Rattle.std.proofs.Common.{◌≡◌, Some, None, refl, arith, slice_get, sym, ap, subst, ◌∙◌}
use Rattle.std.proofs.lemmas.Option.{slice_get_past, slice_get_read}
use Rattle.cddl_language.specs.Reading.{definition_of}
use Rattle.check_reading.specs.Survey.Survey.{defined_in}
use Rattle.check_terms.specs.Definitions.{IsDefinition}
use Rattle.lists.specs.Least.{IsLeast}
use Rattle.check_text.specs.RuleFaults.Arity.{HasOtherCount, arity_at}
use Rattle.check_text.proofs.OfRuleFaults.Arities.{one_rule}
use Rattle.check_text.proofs.OfRuleFaults.Clashes.{definition_there, not_both, one_definition}
use Rattle.check_text.proofs.rule_faults.arity.other_count.Goals as goal

pub returns-in_err-definition : goal.returns-in_err-definition
returns-in_err-definition c t tree r is there begins =
    let d = definition_there t tree c.args.survey.now is c.args.place r there in
    let missing : slice_get c.deref.result.now c.args.place ≡ None = slice_get_past c.deref.result.now c.args.place (omega (arith, c.in_err-definition.ensures.lookup)) in
    absurd (not_both _ d.0 d.1 (subst (λ ds. slice_get ds c.args.place ≡ None) c.deref.ensures.value missing))

pub returns : goal.returns
returns c t tree r is there begins =
    let s = c.args.survey.now in
    let own = c.in_ok-definition.definition.now in
    let d = definition_there t tree s is c.args.place r there in
    let got : slice_get c.deref.result.now c.args.place ≡ Some own = slice_get_read c.deref.result.now _ c.args.place own refl c.in_ok-definition.ensures.lookup.3.0 c.in_ok-definition.ensures.lookup.1 in
    let found = subst (λ ds. slice_get ds c.args.place ≡ Some own) c.deref.ensures.value got in
    let is_own = subst (λ e. IsDefinition t e (definition_of r)) (one_definition _ d.0 own d.1 found) d.2 in
    subst (IsLeast (HasOtherCount (defined_in tree) r)) (sym (c.arity_at.ensures ∙ ap (arity_at s.definitions.items s.names.items own) begins)) (one_rule t tree s is r own is_own)
