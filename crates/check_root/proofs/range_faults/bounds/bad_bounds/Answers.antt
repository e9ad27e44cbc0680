use Rattle.std.proofs.Common.{get_or, sym}
use Rattle.check_root.specs.RangeFaults.Bounds.{IsOverWord}
use Rattle.all_offsets.proofs.Lemmas.{finished, steps}
use Rattle.check_root.proofs.OfRangeFaults.Bounding.{no_word, word_is}
use Rattle.check_root.proofs.range_faults.bounds.bad_bounds.Goals as goal

pub loop-word-preserved : goal.loop-word-preserved
loop-word-preserved c small =
    let i = c.loop-word.word-index in
    let l = c.loop-word-test.true in
    let f = get_or c.args.reached.now i no_word in
    steps (IsOverWord c.args.terms.now.texts) c.args.reached.now i f c.loop-word.least _ _ l (word_is c.args.reached.now i c.loop-word-test.true) (c.bad_bounds_at.ensures (small f (i, l, sym (word_is c.args.reached.now i c.loop-word-test.true)))) c.lesser-least.ensures (c.loop-word.invariant small)

pub returns : goal.returns
returns c small = finished (IsOverWord c.args.terms.now.texts) c.args.reached.now c.loop-word.word-index c.loop-word.least c.loop-word-test.false (c.loop-word.invariant small)
