use Rattle.std.proofs.Common.{List, ℕ, sym, subst, take, arith}
use Rattle.near_words.specs.Near.{texts, IsNear}
use Rattle.near_words.proofs.Steps.{texts_more, texts_whole}
use Rattle.near_words.proofs.nearest.Goals as goal

pub loop-candidate-preserved : goal.loop-candidate-preserved
loop-candidate-preserved c =
    subst (λ (xs : List (List ℕ)). IsNear c.args.word.now xs c.in_ok-best.best) (sym (texts_more c.args.words.now c.loop-candidate.candidate-index _ c.loop-candidate-test.true))
    (c.in_ok-best.ensures (texts (take c.loop-candidate.candidate-index c.args.words.now)) c.loop-candidate.invariant)

pub returns : goal.returns
returns c =
    c.text_of.ensures c.args.word.now (texts c.args.words.now)
    (subst (λ (xs : List (List ℕ)). IsNear c.args.word.now xs c.loop-candidate.best) (texts_whole c.args.words.now c.loop-candidate.candidate-index (omega arith)) c.loop-candidate.invariant)
