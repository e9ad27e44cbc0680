use Rattle.std.proofs.Common.{sym, ◌∙◌}
use Rattle.std.proofs.lemmas.Option.{slice_get-get_or}
use Rattle.lists.proofs.Lemmas.{contains_at}
use Rattle.all_offsets.specs.Offsets.{IsAmong}
use Rattle.all_offsets.proofs.Lemmas.{among, begins, ends, goes_on_least, in_order}
use Rattle.check_root.specs.RangeFaults.Ends.{IsBadEnd}
use Rattle.check_root.proofs.range_faults.ends.all_bad_ends.Goals as goal

pub loop-question-init : goal.loop-question-init
loop-question-init c xs root worth literals are = begins (λ k. IsBadEnd xs worth c.args.terms.now) c.args.asked.now c.new-offsets.result.items c.new-offsets.ensures.items

pub loop-question-preserved : goal.loop-question-preserved
loop-question-preserved c xs root worth literals are =
    let there = slice_get-get_or c.args.asked.now c.loop-question.question-index _ c.loop-question-test.true in
    goes_on_least (λ k. IsBadEnd xs worth c.args.terms.now) c.args.asked.now c.loop-question.question-index _ c.bad_end_at.result _ _ there (c.bad_end_at.ensures xs root worth literals (are _ (contains_at c.args.asked.now c.loop-question.question-index _ there))) (λ p q h k. h.offset ∙ sym k.offset) c.in_ok-push_found.ensures (c.loop-question.invariant xs root worth literals are)

pub returns : goal.returns
returns c xs root worth literals are =
    let told = IsBadEnd xs worth c.args.terms.now in
    in_order (IsAmong told c.args.asked.now) c.loop-question.offsets.items _ (among told c.args.asked.now c.loop-question.offsets.items (ends (λ k. told) c.args.asked.now c.loop-question.question-index c.loop-question.offsets.items c.loop-question-test.false (c.loop-question.invariant xs root worth literals are))) c.sort.ensures.rising c.sort.ensures.same
