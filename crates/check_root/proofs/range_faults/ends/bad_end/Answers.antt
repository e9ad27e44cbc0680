use Rattle.check_reading.specs.declared.parts.part.Question.TheVariants as QuestionV
use Rattle.check_root.specs.RangeFaults.Ends.{IsBadEnd}
use Rattle.all_offsets.proofs.Lemmas.{finished, step_at}
use Rattle.check_root.proofs.range_faults.ends.bad_end.Goals as goal

pub loop-question-preserved : goal.loop-question-preserved
loop-question-preserved c xs root worth literals ends = step_at (IsBadEnd xs worth c.args.terms.now) c.args.asked.now c.loop-question.question-index (record { at = 0; row = 0; call = 0; question = QuestionV.ChoosesFrom }) c.loop-question.least _ _ c.loop-question-test.true (λ there. c.bad_end_at.ensures xs root worth literals (ends _ there)) c.lesser-least.ensures (c.loop-question.invariant xs root worth literals ends)

pub returns : goal.returns
returns c xs root worth literals ends = finished (IsBadEnd xs worth c.args.terms.now) c.args.asked.now c.loop-question.question-index c.loop-question.least c.loop-question-test.false (c.loop-question.invariant xs root worth literals ends)
