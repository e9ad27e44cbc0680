use Rattle.std.proofs.Common.{refl}
use Rattle.cddl_token.specs.Tokens.{flawed}
use Rattle.cddl_token.proofs.NumberFacts.{an_occur, a_large_occur}
use Rattle.cddl_token.proofs.uints.occur_at.Goals as goal

pub returns-then-both_fit : goal.returns-then-both_fit
returns-then-both_fit c =
    let fit = c.both_fit.ensures.yes c.if-both_fit.true in
    (an_occur c.args.source.now c.args.at c.args.star c.uint_end-end.result c.requires.sign c.uint_end-end.ensures.bound c.requires.before fit.0 fit.1, c.uint_end-end.ensures.in_source)

pub returns-else-both_fit : goal.returns-else-both_fit
returns-else-both_fit c = flawed refl refl (a_large_occur c.args.source.now c.args.at c.args.star c.uint_end-end.result c.requires.sign c.uint_end-end.ensures.bound c.requires.before (c.both_fit.ensures.otherwise c.if-both_fit.false))
