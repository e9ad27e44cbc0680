use Rattle.std.proofs.Common.{get_or, sym, subst}
use Rattle.cddl_language.specs.Reading.{rules_of}
use Rattle.check_reading.specs.Survey.Survey.{defined_in}
use Rattle.tree_nodes.specs.View.{view}
use Rattle.all_offsets.proofs.Lemmas.{finished, none_told, steps}
use Rattle.check_text.specs.SiteFaults.Marks.{AreMarks}
use Rattle.check_text.specs.SiteFaults.Told.{IsToldAt}
use Rattle.check_text.specs.SiteFaults.Unwrapped.{IsWrongTilde}
use Rattle.check_text.proofs.OfSiteFaults.Telling.{least_of_word, no_word, word_is}
use Rattle.check_text.proofs.site_faults.unwrapped.wrong_tilde.Goals as goal

pub loop-word-init : goal.loop-word-init
loop-word-init c t tree is are = none_told (IsToldAt t (rules_of (view tree)) (IsWrongTilde (defined_in tree))) c.args.words.now

pub loop-word-preserved : goal.loop-word-preserved
loop-word-preserved c t tree is are =
    let rs = rules_of (view tree) in
    let P = IsWrongTilde (defined_in tree) in
    let w = get_or c.args.words.now c.loop-word.word-index no_word in
    let it = are w (c.loop-word.word-index, c.loop-word-test.true, sym (word_is c.args.words.now c.loop-word.word-index c.loop-word-test.true)) in
    let marked = subst (λ ds. AreMarks ds c.in_ok-marks.marks.keys) c.deref.ensures.value c.in_ok-marks.ensures in
    let wrong = c.wrong_tilde_at.ensures t tree it.rule it.said (record { survey = is; marked = marked }) it.place it.is in
    steps (IsToldAt t rs P) c.args.words.now c.loop-word.word-index w c.loop-word.least _ _ c.loop-word-test.true (word_is c.args.words.now c.loop-word.word-index c.loop-word-test.true) (least_of_word t rs P w it.rule it.said it.place it.is _ wrong) c.lesser-least.ensures (c.loop-word.invariant t tree is are)

pub returns : goal.returns
returns c t tree is are = finished (IsToldAt t (rules_of (view tree)) (IsWrongTilde (defined_in tree))) c.args.words.now c.loop-word.word-index c.loop-word.least c.loop-word-test.false (c.loop-word.invariant t tree is are)
