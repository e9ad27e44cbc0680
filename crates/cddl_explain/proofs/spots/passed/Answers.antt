use Rattle.std.proofs.Common.{arith}
use Rattle.std.proofs.lemmas.List.{at_drop_all}
use Rattle.cddl_explain.specs.Spots.{passed}
use Rattle.cddl_explain.proofs.Counting.{passed_here, passed_more}
use Rattle.cddl_explain.proofs.spots.passed.Goals as goal

pub token-preserved : goal.token-preserved
token-preserved c =
    let more = passed_more c.args.at c.args.tokens.now c.token.k _ c.token-test.true c.if-tokens-k.false in
    omega (arith, more, c.token.invariant)

pub returns-then-tokens-k-clause-count : goal.returns-then-tokens-k-clause-count
returns-then-tokens-k-clause-count c =
    let here = passed_here c.args.at c.args.tokens.now c.token.k _ c.token-test.true c.if-tokens-k.true in
    omega (arith, here, c.token.invariant)

pub returns-clause-count : goal.returns-clause-count
returns-clause-count c =
    let end = at_drop_all (passed c.args.at) c.args.tokens.now c.token.k (omega arith) in
    omega (arith, end, c.token.invariant)
