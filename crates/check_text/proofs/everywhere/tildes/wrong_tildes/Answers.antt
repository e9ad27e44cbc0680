use Rattle.std.proofs.Common.{get_or, subst}
use Rattle.cddl_language.specs.Reading.{rules_of}
use Rattle.check_reading.specs.Survey.Survey.{defined_in}
use Rattle.lists.proofs.Lemmas.{contains_at}
use Rattle.tree_nodes.specs.View.{view}
use Rattle.all_offsets.specs.Offsets.{IsAmong}
use Rattle.all_offsets.proofs.Lemmas.{among, begins, ends, goes_on_least, in_order, read_at}
use Rattle.check_text.specs.SiteFaults.Marks.{AreMarks}
use Rattle.check_text.specs.SiteFaults.Told.{IsToldAt}
use Rattle.check_text.specs.SiteFaults.Unwrapped.{IsWrongTilde}
use Rattle.check_text.proofs.OfSiteFaults.Telling.{least_of_word, no_word, one_of_word, word_is}
use Rattle.check_text.proofs.OfSiteFaults.Tildes.{one_tilde}
use Rattle.check_text.proofs.everywhere.tildes.wrong_tildes.Goals as goal

pub loop-word-init : goal.loop-word-init
loop-word-init c t tree is are = begins (λ k. IsToldAt t (rules_of (view tree)) (IsWrongTilde (defined_in tree))) c.args.words.now c.new-offsets.result.items c.new-offsets.ensures.items

pub loop-word-preserved : goal.loop-word-preserved
loop-word-preserved c t tree is are =
    let rs = rules_of (view tree) in
    let P = IsWrongTilde (defined_in tree) in
    let ws = c.args.words.now in
    let w = get_or ws c.loop-word.word-index no_word in
    let i = c.loop-word.word-index in
    let there = read_at ws i w c.loop-word-test.true (word_is c.args.words.now c.loop-word.word-index c.loop-word-test.true) in
    let it = are w (contains_at ws i w there) in
    let marked = subst (λ ds. AreMarks ds c.in_ok-marks.marks.keys) c.deref.ensures.value c.in_ok-marks.ensures in
    let wrong = c.wrong_tilde_at-wrong.ensures t tree it.rule it.said (record { survey = is; marked = marked }) it.place it.is in
    goes_on_least (λ k. IsToldAt t rs P) ws i w c.wrong_tilde_at-wrong.result _ _ there (least_of_word t rs P w it.rule it.said it.place it.is _ wrong) (one_of_word t rs P w it.rule it.said it.place it.is (one_tilde (defined_in tree) it.rule it.said)) c.in_ok-push_found.ensures (c.loop-word.invariant t tree is are)

pub returns : goal.returns
returns c t tree is are =
    let told = IsToldAt t (rules_of (view tree)) (IsWrongTilde (defined_in tree)) in
    in_order (IsAmong told c.args.words.now) c.loop-word.offsets.items _ (among told c.args.words.now c.loop-word.offsets.items (ends (λ k. told) c.args.words.now c.loop-word.word-index c.loop-word.offsets.items c.loop-word-test.false (c.loop-word.invariant t tree is are))) c.sort.ensures.rising c.sort.ensures.same
