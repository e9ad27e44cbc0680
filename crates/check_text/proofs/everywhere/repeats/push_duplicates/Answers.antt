use Rattle.std.proofs.Common.{◌≡◌, Some, None, refl, arith, slice_get, sym, ap, subst, ◌∙◌}
use Rattle.std.proofs.lemmas.Option.{slice_get_past, slice_get_read}
use Rattle.std.proofs.lemmas.Result.{on_ok_weaker}
use Rattle.lists.proofs.Lemmas.{no_some, one_of}
use Rattle.cddl_language.specs.Reading.{definition_of, rules_of}
use Rattle.check_reading.specs.Survey.Survey.{parameters_at}
use Rattle.check_terms.specs.Definitions.{IsDefinition}
use Rattle.lists.specs.Least.{IsLeast}
use Rattle.tree_nodes.specs.View.{view}
use Rattle.all_offsets.specs.Offsets.{Gains}
use Rattle.check_text.specs.RuleFaults.Duplicates.{IsDuplicateAt, IsRepeated, other_equals_by}
use Rattle.all_offsets.proofs.Lemmas.{gains_both, gains_least, same_gains}
use Rattle.check_text.proofs.OfEverywhere.Repeating.{one_other}
use Rattle.check_text.proofs.OfRuleFaults.Clashes.{definition_there, not_both, one_definition}
use Rattle.check_text.proofs.OfRuleFaults.Equals.{IsOther, from_duplicate, others, to_duplicate}
use Rattle.check_text.proofs.OfRuleFaults.Rules.{parameters_there}
use Rattle.check_text.proofs.everywhere.repeats.push_duplicates.Goals as goal

pub returns-in_default : goal.returns-in_default
returns-in_default c tree r is there begins =
    let d = definition_there c.args.terms.now tree c.args.survey.now is c.args.place r there in
    let missing : slice_get c.deref.result.now c.args.place ≡ None = slice_get_past c.deref.result.now c.args.place (omega (arith, c.in_default.ensures.lookup)) in
    absurd (not_both _ d.0 d.1 (subst (λ ds. slice_get ds c.args.place ≡ None) c.deref.ensures.value missing))

pub returns-in_default-get : goal.returns-in_default-get
returns-in_default-get c tree r is there begins =
    let v = parameters_there (rules_of (view tree)) c.args.survey.now.parameters.items c.args.place r is.parameters_found there in
    let missing : slice_get c.deref-2.result.now c.args.place ≡ None = slice_get_past c.deref-2.result.now c.args.place (omega (arith, c.in_default-get.ensures.lookup)) in
    absurd (no_some (sym missing ∙ (ap (λ vs. slice_get vs c.args.place) c.deref-2.ensures.value ∙ v.1)))

pub returns : goal.returns
returns c =
    on_ok_weaker c.push_repeated.result
    (λ repeated tree r is there begins.
    let t = c.args.terms.now in
    let s = c.args.survey.now in
    let rs = rules_of (view tree) in
    let own = c.in-Some.definition.now in
    let d = definition_there t tree s is c.args.place r there in
    let got : slice_get c.deref.result.now c.args.place ≡ Some own = slice_get_read c.deref.result.now _ c.args.place own refl c.in-Some.ensures.lookup.3.0 c.in-Some.ensures.lookup.1 in
    let found = subst (λ ds. slice_get ds c.args.place ≡ Some own) c.deref.ensures.value got in
    let is_own = subst (λ e. IsDefinition t e (definition_of r)) (one_definition _ d.0 own d.1 found) d.2 in
    let v = parameters_there (rules_of (view tree)) s.parameters.items c.args.place r is.parameters_found there in
    let offsets = c.in-Some-get.parameters.now in
    let read : slice_get c.deref-2.result.now c.args.place ≡ Some offsets = slice_get_read c.deref-2.result.now _ c.args.place offsets refl c.in-Some-get.ensures.lookup.3.0 c.in-Some-get.ensures.lookup.1 in
    let same = ap (λ w. w.items) (one_of (slice_get s.parameters.items c.args.place) offsets v.0 (subst (λ vs. slice_get vs c.args.place ≡ Some offsets) c.deref-2.ensures.value read) v.1) ∙ v.2 in
    let law = c.equal_definitions.ensures in
    let told = c.other_equals.ensures ∙ ap (other_equals_by s.definitions.items s.names.items own) begins in
    let other = subst (IsLeast (IsOther rs r)) (sym told) (others t tree s is law r own is_own) in
    let first = gains_least (IsOther rs r) c.other_equals.result _ _ other (one_other rs r) c.in_ok-push_found.ensures in
    let second = subst (λ ns. Gains (IsRepeated ns (parameters_at r)) c.push_found.new.offsets.items c.push_repeated.new.offsets.items) c.deref-4.ensures.value (subst (λ os. Gains (IsRepeated c.deref-4.result.now os) c.push_found.new.offsets.items c.push_repeated.new.offsets.items) (c.deref-3.ensures.value ∙ same) repeated) in
    same_gains _ (IsDuplicateAt rs r) _ _ (to_duplicate t tree s is law r own is_own) (from_duplicate t tree s is law r own is_own) (gains_both (IsOther rs r) (IsRepeated own.parameters.items (parameters_at r)) _ _ _ first second))
    c.push_repeated.ensures
