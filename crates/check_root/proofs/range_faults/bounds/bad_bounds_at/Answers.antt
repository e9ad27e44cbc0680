use Rattle.std.proofs.Common.{◌≡◌, None, Some, option_map, rules, sym, ap, subst, ◌∙◌}
use Rattle.lists.specs.Least.{IsLeast}
use Rattle.check_root.specs.RangeFaults.Bounds.{IsOverWord, occurrence_in}
use Rattle.check_root.proofs.OfRangeFaults.Bounding.{no_over, occurrence_here, over_here, over_nowhere}
use Rattle.check_root.proofs.range_faults.bounds.bad_bounds_at.Goals as goal

pub returns-in_err-text : goal.returns-in_err-text
returns-in_err-text c small =
    let none : c.from_residual.result ≡ None = search rules in
    subst (IsLeast (IsOverWord c.args.terms.now.texts c.args.word)) (sym none) (no_over c.args.word.at (occurrence_in c.args.terms.now.texts c.args.word) (occurrence_here c.args.terms.now.texts c.args.word None c.in-Occurrence.is (sym c.text.ensures ∙ ap (option_map (λ s. s.now)) c.in_err-text.was)))

pub returns-then-is_over : goal.returns-then-is_over
returns-then-is_over c small =
    let texts = c.args.terms.now.texts in
    let n = c.in_ok-text.field-0.now in
    over_here c.args.word.at (occurrence_in texts c.args.word) n (occurrence_here texts c.args.word (Some n) c.in-Occurrence.is (sym c.text.ensures ∙ ap (option_map (λ s. s.now)) c.in_ok-text.was)) small c.is_over.result c.is_over.ensures c.if-is_over.true

pub returns-else-is_over : goal.returns-else-is_over
returns-else-is_over c small =
    let texts = c.args.terms.now.texts in
    let n = c.in_ok-text.field-0.now in
    over_nowhere c.args.word.at (occurrence_in texts c.args.word) n (occurrence_here texts c.args.word (Some n) c.in-Occurrence.is (sym c.text.ensures ∙ ap (option_map (λ s. s.now)) c.in_ok-text.was)) small c.is_over.result c.is_over.ensures c.if-is_over.false
