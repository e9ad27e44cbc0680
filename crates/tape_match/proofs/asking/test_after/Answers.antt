use Rattle.cddl_meaning.specs.Forms as F
use Rattle.table_nodes.specs.Nodes.{test_view}
use Rattle.tape_match.proofs.Says.{such_says}
use Rattle.tape_match.proofs.asking.test_after.Goals as goal

pub returns-clause-told : goal.returns-clause-told
returns-clause-told c l of x says on =
    let test = test_view c.args.test.now in
    let s = c.in-Some-tested.ensures.told c.args.on.now.taped x (c.in-Some.ensures x on) in
    c.within.ensures.told l (F.Such of test) x (such_says l of test x c.in-Some-tested.told.says c.args.asked c.in-Some-tested.told.bits says s.0 s.1)
