use Rattle.check_reading.specs.declared.parts.part.Question.TheVariants as QuestionV
use Rattle.all_offsets.proofs.Lemmas.{finished, step_at}
use Rattle.check_root.specs.ControlFaults.Controllers.{IsWrong}
use Rattle.check_root.proofs.control_faults.controllers.least_wrong.Goals as goal

pub loop-question-preserved : goal.loop-question-preserved
loop-question-preserved c xs root worth literals flags are = step_at (IsWrong xs worth c.args.terms.now c.args.wrong) c.args.asked.now c.loop-question.question-index (record { at = 0; row = 0; call = 0; question = QuestionV.ChoosesFrom }) c.loop-question.least _ _ c.loop-question-test.true (λ there. c.wrong_at.ensures xs root worth literals flags (are _ there)) c.lesser-least.ensures (c.loop-question.invariant xs root worth literals flags are)

pub returns : goal.returns
returns c xs root worth literals flags are = finished (IsWrong xs worth c.args.terms.now c.args.wrong) c.args.asked.now c.loop-question.question-index c.loop-question.least c.loop-question-test.false (c.loop-question.invariant xs root worth literals flags are)
