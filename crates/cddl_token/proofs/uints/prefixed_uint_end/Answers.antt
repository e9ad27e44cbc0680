use Rattle.std.proofs.Common.{arith}
use Rattle.cddl_token.proofs.UintFacts.{bare_bound, prefixed_bound}
use Rattle.cddl_token.proofs.uints.prefixed_uint_end.Goals as goal

pub returns-then-end-at-clause-bound : goal.returns-then-end-at-clause-bound
returns-then-end-at-clause-bound c =
    let end = c.digits_end-end.ensures in
    bare_bound c.args.source.now c.args.at c.digits_end-end.result end.from c.args.radix c.requires.begins end.stops c.if-end-at.true

pub returns-else-end-at-clause-bound : goal.returns-else-end-at-clause-bound
returns-else-end-at-clause-bound c =
    let end = c.digits_end-end.ensures in
    prefixed_bound c.args.source.now c.args.at c.digits_end-end.result end.from c.args.radix c.requires.begins end.each end.stops (omega arith)
