use Rattle.std.proofs.Common.{◌≡◌, ◌||◌, ℕ, List, drop, slice_get, subst, sym}
use Rattle.std.proofs.Math.ListN.{drop_of_length-le}
use Rattle.check_text.specs.SiteFaults.Marks.{AddsMarks, has_mark, is_parameter_of}
use Rattle.check_text.specs.declared.site_faults.marks.Mark.{Mark}
use Rattle.check_text.proofs.OfSiteFaults.Marking.{all_rules, at_rule, has_parameter, next_rule}
use Rattle.lists.proofs.Lemmas.{next_drop}
use Rattle.check_text.proofs.site_faults.marks.marks_of.Goals as goal

pub loop-rule-init : goal.loop-rule-init
loop-rule-init c = subst (λ (ms : List Mark). (r k : ℕ) → (has_mark ms r k || has_parameter 0 c.args.definitions.now r k) ≡ is_parameter_of (slice_get c.args.definitions.now r) k) (sym c.new-marks.ensures.empty) (at_rule c.args.definitions.now)

pub loop-rule-preserved : goal.loop-rule-preserved
loop-rule-preserved c =
    let ds = c.args.definitions.now in
    next_rule c.loop-rule.marks.keys c.add_marks.new.marks.keys c.loop-rule.rule c.index-definitions-rule.result (drop c.loop-rule.rule ds) _ (λ r k. is_parameter_of (slice_get ds r) k) (next_drop ds c.loop-rule.rule c.index-definitions-rule.result c.loop-rule-test.true c.index-definitions-rule.is) (subst (λ ps. AddsMarks c.loop-rule.rule ps c.loop-rule.marks.keys c.add_marks.new.marks.keys) c.deref.ensures.value c.in_ok-add_marks.ensures) c.loop-rule.invariant

pub returns : goal.returns
returns c = all_rules c.loop-rule.marks.keys c.loop-rule.rule _ (λ r k. is_parameter_of (slice_get c.args.definitions.now r) k) (drop_of_length-le c.args.definitions.now c.loop-rule-test.false) c.loop-rule.invariant
