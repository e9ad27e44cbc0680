use Rattle.check_names.proofs.OfKinds.Tops.{found, further, missing, smaller}
use Rattle.check_names.proofs.kinds.heads.stripped.Goals as goal

pub returns-then-not-is_parens : goal.returns-then-not-is_parens
returns-then-not-is_parens c x h = found c.args.terms.now c.args.number c.loop-row.number c.loop-row.invariant c.in_ok-row.row c.in_ok-row.ensures c.if-not-is_parens.ensures x h

pub returns-in_err-number : goal.returns-in_err-number
returns-in_err-number c x h = absurd (missing c.args.terms.now c.args.number c.loop-row.number c.loop-row.invariant c.in_ok-row.row c.in_ok-row.ensures c.if-not-is_parens.ensures c.in_err-number.was x h)

pub loop-row-smaller : goal.loop-row-smaller
loop-row-smaller c = smaller c.args.terms.now c.args.number c.loop-row.number c.loop-row.invariant c.in_ok-row.row c.in_ok-row.ensures c.len.ensures.table c.in_ok-number.number c.in_ok-number.was

pub loop-row-preserved : goal.loop-row-preserved
loop-row-preserved c x h = further c.args.terms.now c.args.number c.loop-row.number c.loop-row.invariant c.in_ok-row.row c.in_ok-row.ensures c.if-not-is_parens.ensures c.in_ok-number.number c.in_ok-number.was x h
