use Rattle.table_nodes.specs.Nodes.{entries_view}
use Rattle.tape_match.proofs.Left.{one_more_same}
use Rattle.tape_match.proofs.before.same_from.Goals as goal

pub loop-number-preserved : goal.loop-number-preserved
loop-number-preserved c = λ b.
    let s = c.are_same_at.ensures c.loop-number-test.true in
    one_more_same c.loop-number.number (entries_view c.args.some.now) (entries_view c.args.others.now) s.0 s.1 s.2 s.3 s.4 (c.loop-number.invariant b)
