use Rattle.std.proofs.Common.{◌≡◌, ℕ, if◌then◌else◌, Some, None, refl, arith, slice_get, sym, ap, subst, ◌∙◌}
use Rattle.std.proofs.lemmas.Option.{slice_get_past, slice_get_read}
use Rattle.cddl_language.specs.Reading.{definition_of, name_in}
use Rattle.lists.specs.Least.{IsLeast}
use Rattle.check_reading.specs.Survey.Survey.{defined_in}
use Rattle.check_terms.specs.Definitions.{IsDefinition}
use Rattle.check_text.specs.RuleFaults.Kinds.{IsClashAt}
use Rattle.check_text.proofs.OfRuleFaults.Clashes.{clash_told, definition_there, not_both, one_definition}
use Rattle.check_text.proofs.rule_faults.kinds.clash_at.Goals as goal

pub returns-in_err-definition : goal.returns-in_err-definition
returns-in_err-definition c tree r is there begins =
    let d = definition_there c.args.terms.now tree c.args.survey.now is c.args.place r there in
    let missing : slice_get c.deref.result.now c.args.place ≡ None = slice_get_past c.deref.result.now c.args.place (omega (arith, c.in_err-definition.ensures.lookup)) in
    absurd (not_both _ d.0 d.1 (subst (λ ds. slice_get ds c.args.place ≡ None) c.deref.ensures.value missing))

pub returns : goal.returns
returns c tree r is there begins =
    let t = c.args.terms.now in
    let s = c.args.survey.now in
    let own = c.in_ok-definition.definition.now in
    let d = definition_there t tree s is c.args.place r there in
    let got : slice_get c.deref.result.now c.args.place ≡ Some own = slice_get_read c.deref.result.now _ c.args.place own refl c.in_ok-definition.ensures.lookup.3.0 c.in_ok-definition.ensures.lookup.1 in
    let found = subst (λ ds. slice_get ds c.args.place ≡ Some own) c.deref.ensures.value got in
    let is_own = subst (λ e. IsDefinition t e (definition_of r)) (one_definition _ d.0 own d.1 found) d.2 in
    subst (IsLeast (IsClashAt (defined_in tree) r)) (sym (c.start_if.ensures ∙ ap (λ (k : ℕ). if c.differ.result then Some k else None) begins)) (clash_told (defined_in tree) r c.is_group_definition-gives_group.result c.is_group-is_group.result (c.is_group_definition-gives_group.ensures (defined_in tree) (definition_of r) is.kinds_found is_own) (c.is_group-is_group.ensures ∙ is.kinds_found.groups own.name (name_in r) is_own.name) c.differ.result c.differ.ensures)
