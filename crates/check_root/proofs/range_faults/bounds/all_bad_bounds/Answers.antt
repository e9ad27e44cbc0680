use Rattle.std.proofs.Common.{get_or}
use Rattle.lists.proofs.Lemmas.{contains_at}
use Rattle.all_offsets.specs.Offsets.{IsAmong}
use Rattle.all_offsets.proofs.Lemmas.{among, begins, ends, goes_on_least, in_order, read_at}
use Rattle.check_root.specs.RangeFaults.Bounds.{IsOverWord, occurrence_in}
use Rattle.check_root.proofs.OfRangeFaults.Bounding.{no_word, one_over, word_is}
use Rattle.check_root.proofs.range_faults.bounds.all_bad_bounds.Goals as goal

pub loop-word-init : goal.loop-word-init
loop-word-init c small = begins (λ k. IsOverWord c.args.terms.now.texts) c.args.reached.now c.new-offsets.result.items c.new-offsets.ensures.items

pub loop-word-preserved : goal.loop-word-preserved
loop-word-preserved c small =
    let texts = c.args.terms.now.texts in
    let i = c.loop-word.word-index in
    let f = get_or c.args.reached.now i no_word in
    let there = read_at c.args.reached.now i f c.loop-word-test.true (word_is c.args.reached.now i c.loop-word-test.true) in
    goes_on_least (λ k. IsOverWord texts) c.args.reached.now i f c.bad_bounds_at.result _ _ there (c.bad_bounds_at.ensures (small f (contains_at c.args.reached.now i f there))) (one_over (occurrence_in texts f) f.at) c.in_ok-push_found.ensures (c.loop-word.invariant small)

pub returns : goal.returns
returns c small =
    let told = IsOverWord c.args.terms.now.texts in
    in_order (IsAmong told c.args.reached.now) c.loop-word.offsets.items _ (among told c.args.reached.now c.loop-word.offsets.items (ends (λ k. told) c.args.reached.now c.loop-word.word-index c.loop-word.offsets.items c.loop-word-test.false (c.loop-word.invariant small))) c.sort.ensures.rising c.sort.ensures.same
