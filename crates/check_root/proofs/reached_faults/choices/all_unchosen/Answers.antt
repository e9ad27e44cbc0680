use Rattle.std.proofs.lemmas.Option.{slice_get-get_or}
use Rattle.check_root.specs.ReachedFaults.Choices.{unchosen_at}
use Rattle.all_offsets.specs.Offsets.{IsAtPlace, IsSaid}
use Rattle.all_offsets.proofs.Lemmas.{begins, ends, goes_on_said, in_order}
use Rattle.check_root.proofs.reached_faults.choices.all_unchosen.Goals as goal

pub loop-question-init : goal.loop-question-init
loop-question-init c = begins (IsSaid (λ k. unchosen_at c.args.closed.now c.args.choosable.now)) c.args.asked.now c.new-offsets.result.items c.new-offsets.ensures.items

pub loop-question-preserved : goal.loop-question-preserved
loop-question-preserved c = goes_on_said (λ k. unchosen_at c.args.closed.now c.args.choosable.now) c.args.asked.now c.loop-question.question-index _ c.unchosen_at-wrong.result _ _ (slice_get-get_or c.args.asked.now c.loop-question.question-index _ c.loop-question-test.true) c.unchosen_at-wrong.ensures c.in_ok-push_found.ensures c.loop-question.invariant

pub returns : goal.returns
returns c = in_order (IsAtPlace (IsSaid (λ k. unchosen_at c.args.closed.now c.args.choosable.now)) c.args.asked.now) c.loop-question.offsets.items _ (ends (IsSaid (λ k. unchosen_at c.args.closed.now c.args.choosable.now)) c.args.asked.now c.loop-question.question-index c.loop-question.offsets.items c.loop-question-test.false c.loop-question.invariant) c.sort.ensures.rising c.sort.ensures.same
