use Rattle.std.proofs.Common.{◌≤◌, ◌+◌, sym, subst, drop, drop_of_length-le, length, arith}
use Rattle.check_reached.proofs.Asking.{IsListing, all_listed, next_listed, none_listed}
use Rattle.check_reached.proofs.runs.with_arguments.Goals as goal

pub loop-row-init : goal.loop-row-init
loop-row-init c = λ refs trees. subst (IsListing c.args.terms.now refs c.args.rows.now) (sym c.new-calls.ensures.items) (none_listed c.args.terms.now refs c.args.rows.now trees)

pub loop-row-preserved : goal.loop-row-preserved
loop-row-preserved c = λ refs trees.
    let i = c.loop-row.row-index in
    subst (IsListing c.args.terms.now refs (drop (i + 1) c.args.rows.now)) (sym c.in_ok-push.ensures) (next_listed c.args.terms.now refs c.args.rows.now i 0 c.loop-row.calls.items c.in_ok-call.call c.loop-row-test.true c.in_ok-call.ensures (c.loop-row.invariant refs trees))

pub returns : goal.returns
returns c = λ refs trees.
    let i = c.loop-row.row-index in
    let short : length c.args.rows.now ≤ i = omega (arith, c.loop-row-test.false) in
    all_listed c.args.terms.now refs (drop i c.args.rows.now) c.loop-row.calls.items (drop_of_length-le c.args.rows.now short) (c.loop-row.invariant refs trees)
