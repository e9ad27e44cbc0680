use Rattle.std.proofs.Common.{◌≤◌, ◌+◌, drop, drop_of_length-le, length, sym, subst, arith}
use Rattle.check_reading.specs.declared.parts.part.Question.TheVariants as QuestionV
use Rattle.check_maps.specs.Spliced.Spliced.{IsWay}
use Rattle.check_maps.proofs.OfSpliced.Walking.{IsGoing, all_gone, next_gone, none_gone}
use Rattle.check_maps.proofs.spliced.listing.ways_of.Goals as goal

pub loop-question-init : goal.loop-question-init
loop-question-init c = λ xs root refs is kinds openings endings. none_gone (IsWay xs root c.args.terms.now refs c.args.closed.now.places.items) c.args.asked.now _ c.new-ways.ensures.items

pub loop-question-preserved : goal.loop-question-preserved
loop-question-preserved c = λ xs root refs is kinds openings endings.
    let R = IsWay xs root c.args.terms.now refs c.args.closed.now.places.items in
    subst (IsGoing R c.args.asked.now (drop (c.loop-question.question-index + 1) c.args.asked.now)) (sym c.in_ok-push.ensures.items)
    (next_gone R c.args.asked.now c.loop-question.question-index c.loop-question.ways.items (record { at = 0; row = 0; call = 0; question = QuestionV.ChoosesFrom }) (record { owner = c.owner_of.result; target = c.target_of.result }) c.loop-question-test.true (record { owner = c.owner_of.ensures; target = λ x row reached. c.target_of.ensures xs root refs x is kinds openings endings row reached }) (c.loop-question.invariant xs root refs is kinds openings endings))

pub returns : goal.returns
returns c = λ xs root refs is kinds openings endings.
    let i = c.loop-question.question-index in
    let short : length c.args.asked.now ≤ i = omega (arith, c.loop-question-test.false) in
    all_gone (IsWay xs root c.args.terms.now refs c.args.closed.now.places.items) c.args.asked.now (drop i c.args.asked.now) c.loop-question.ways.items (drop_of_length-le c.args.asked.now short) (c.loop-question.invariant xs root refs is kinds openings endings)
