use Rattle.std.proofs.Common.{◌∙◌}
use Rattle.std.proofs.lemmas.Option.{slice_get-get_or}
use Rattle.cddl_language.specs.Reading.{rules_of}
use Rattle.tree_nodes.specs.View.{view}
use Rattle.check_text.specs.RuleFaults.Duplicates.{IsDuplicateAt}
use Rattle.check_text.proofs.OfRuleFaults.Equals.{duplicates}
use Rattle.check_text.proofs.OfRuleFaults.Telling.{begins, ends, goes_on, in_rules}
use Rattle.check_text.proofs.rule_faults.duplicates.duplicate.Goals as goal

pub loop-place-init : goal.loop-place-init
loop-place-init c tree is = begins (IsDuplicateAt (rules_of (view tree))) (rules_of (view tree))

pub loop-place-preserved : goal.loop-place-preserved
loop-place-preserved c tree is =
    let starts = c.deref-start-items.result.now in
    goes_on (IsDuplicateAt (rules_of (view tree))) (rules_of (view tree)) starts c.loop-place.place _ c.loop-place.least c.in_ok-found.found c.lesser-least.result (c.deref-start-items.ensures.value ∙ is.starts_found) (slice_get-get_or starts c.loop-place.place _ c.loop-place-test.true) (λ r there start. c.in_ok-found.ensures tree r is there start) c.lesser-least.ensures (c.loop-place.invariant tree is)

pub returns : goal.returns
returns c z tree e is =
    duplicates tree z e c.loop-place.least (in_rules tree z e (IsDuplicateAt (rules_of (view tree))) c.loop-place.least (ends (IsDuplicateAt (rules_of (view tree))) (rules_of (view tree)) c.deref-start-items.result.now c.loop-place.place c.loop-place.least (c.deref-start-items.ensures.value ∙ is.starts_found) c.loop-place-test.false (c.loop-place.invariant tree is)))
