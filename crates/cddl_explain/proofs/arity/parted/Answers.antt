use Rattle.std.proofs.Common.{arith}
use Rattle.std.proofs.lemmas.List.{at_drop_all}
use Rattle.cddl_explain.specs.Arity.{commas}
use Rattle.cddl_explain.proofs.Counting.{commas_end, commas_on}
use Rattle.cddl_explain.proofs.arity.parted.Goals as goal

pub token-preserved : goal.token-preserved
token-preserved c =
    let on = commas_on c.args.tokens.now c.token.k c.token.depth c.count_after-depth.result _ c.parts-count.result c.token-test.true c.parts-count.ensures.parts c.count_after-depth.ensures.after c.if-depth-eq0.false in
    let so_far = c.token.invariant.so_far in
    record { so_far = omega (arith, on, so_far); inside = omega arith; few = omega arith }

pub returns-then-depth-eq0 : goal.returns-then-depth-eq0
returns-then-depth-eq0 c =
    let end = commas_end c.args.tokens.now c.token.k c.token.depth c.count_after-depth.result _ c.parts-count.result c.token-test.true c.parts-count.ensures.parts c.count_after-depth.ensures.after c.if-depth-eq0.true in
    let so_far = c.token.invariant.so_far in
    omega (arith, end, so_far)

pub returns : goal.returns
returns c = let end = at_drop_all (commas c.token.depth) c.args.tokens.now c.token.k (omega arith) in let so_far = c.token.invariant.so_far in omega (arith, end, so_far)
