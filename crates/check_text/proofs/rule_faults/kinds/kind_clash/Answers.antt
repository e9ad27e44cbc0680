use Rattle.std.proofs.Common.{◌∙◌}
use Rattle.std.proofs.lemmas.Option.{slice_get-get_or}
use Rattle.cddl_language.specs.Reading.{rules_of}
use Rattle.tree_nodes.specs.View.{view}
use Rattle.check_text.specs.RuleFaults.Kinds.{IsClashAt}
use Rattle.check_reading.specs.Survey.Survey.{defined_in}
use Rattle.check_text.proofs.OfRuleFaults.Clashes.{clashes}
use Rattle.check_text.proofs.OfRuleFaults.Telling.{begins, ends, goes_on, in_rules}
use Rattle.check_text.proofs.rule_faults.kinds.kind_clash.Goals as goal

pub loop-place-init : goal.loop-place-init
loop-place-init c tree is = begins (IsClashAt (defined_in tree)) (rules_of (view tree))

pub loop-place-preserved : goal.loop-place-preserved
loop-place-preserved c tree is =
    let starts = c.deref-start-items.result.now in
    goes_on (IsClashAt (defined_in tree)) (rules_of (view tree)) starts c.loop-place.place _ c.loop-place.least c.clash_at.result c.lesser-least.result (c.deref-start-items.ensures.value ∙ is.starts_found) (slice_get-get_or starts c.loop-place.place _ c.loop-place-test.true) (λ r there start. c.clash_at.ensures tree r is there start) c.lesser-least.ensures (c.loop-place.invariant tree is)

pub returns : goal.returns
returns c z tree e is =
    clashes tree z e c.loop-place.least (in_rules tree z e (IsClashAt (defined_in tree)) c.loop-place.least (ends (IsClashAt (defined_in tree)) (rules_of (view tree)) c.deref-start-items.result.now c.loop-place.place c.loop-place.least (c.deref-start-items.ensures.value ∙ is.starts_found) c.loop-place-test.false (c.loop-place.invariant tree is)))
