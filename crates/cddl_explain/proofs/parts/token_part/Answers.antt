use Rattle.std.proofs.Common.{arith, ◌≡◌, Some}
use Rattle.cddl_explain.specs.Parts.{token_part}
use Rattle.cddl_explain.proofs.Finding.{found_at, found_within}
use Rattle.cddl_explain.proofs.parts.token_part.Goals as goal

pub returns-then-token-offset-clause-within : goal.returns-then-token-offset-clause-within
returns-then-token-offset-clause-within c = λ end order.
    let found = found_at c.args.tokens.now c.args.offset c.loop-token.before c.loop-token.token-index _ c.loop-token-test.true c.if-token-offset.true in
    let same : token_part c.args.offset 0 c.args.tokens.now ≡ Some c.part_of_token.result = cc in
    found_within c.args.tokens.now c.args.offset 0 0 end c.part_of_token.result (omega arith) order same
