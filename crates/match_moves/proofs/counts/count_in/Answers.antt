use Rattle.std.proofs.Common.{ap, ◌∙◌, slice_set, arith}
use Rattle.match_moves.proofs.Lists.{counted_none, counted_written}
use Rattle.match_moves.proofs.counts.count_in.Goals as goal

pub returns-in-Some : goal.returns-in-Some
returns-in-Some c = ap (slice_set c.args.counts.now c.in-Some.number) c.saturating_add.ensures ∙ counted_written c.args.counts.now c.in-Some.number c.args.after (omega (arith, c.in-Some.ensures.some))

pub returns-in_default : goal.returns-in_default
returns-in_default c = counted_none c.args.after c.args.counts.now (omega (arith, c.in_default.ensures.none))
