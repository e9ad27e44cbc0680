use Rattle.std.proofs.Common.{◌∙◌}
use Rattle.std.proofs.lemmas.Option.{slice_get-get_or}
use Rattle.cddl_language.specs.Reading.{rules_of}
use Rattle.tree_nodes.specs.View.{view}
use Rattle.check_text.specs.Everywhere.Rules.{IsToldAtRule}
use Rattle.check_text.proofs.OfEverywhere.Gathering.{begins_rules, ends_rules, goes_on_rules}
use Rattle.check_text.proofs.OfEverywhere.OfRules.{in_text}
use Rattle.check_text.proofs.everywhere.rules.at_rules.Goals as goal

pub loop-place-init : goal.loop-place-init
loop-place-init c tree is = begins_rules (IsToldAtRule c.args.code (rules_of (view tree))) (rules_of (view tree)) c.new-offsets.result.items c.new-offsets.ensures.items

pub loop-place-preserved : goal.loop-place-preserved
loop-place-preserved c tree is =
    let starts = c.deref-start-items.result.now in
    goes_on_rules (IsToldAtRule c.args.code (rules_of (view tree))) (rules_of (view tree)) starts c.loop-place.place _ c.loop-place.offsets.items _ (c.deref-start-items.ensures.value ∙ is.starts_found) (slice_get-get_or starts c.loop-place.place _ c.loop-place-test.true) (λ r there start. c.in_ok-push_told.ensures tree r is there start) (c.loop-place.invariant tree is)

pub returns : goal.returns
returns c z tree e is =
    in_text tree z e c.args.code c.loop-place.offsets.items (ends_rules (IsToldAtRule c.args.code (rules_of (view tree))) (rules_of (view tree)) c.deref-start-items.result.now c.loop-place.place c.loop-place.offsets.items (c.deref-start-items.ensures.value ∙ is.starts_found) c.loop-place-test.false (c.loop-place.invariant tree is))
