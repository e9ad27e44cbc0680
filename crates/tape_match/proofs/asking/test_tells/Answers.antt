use Rattle.cddl_meaning.specs.Forms.{Plain}
use Rattle.table_nodes.specs.Nodes.{test_view}
use Rattle.tape_match.proofs.Says.{plain_says}
use Rattle.tape_match.proofs.asking.test_tells.Goals as goal

pub returns-clause-told : goal.returns-clause-told
returns-clause-told c l x on = c.within.ensures.told l (Plain (test_view c.args.test.now)) x (plain_says l (test_view c.args.test.now) x c.in-Some-seen_passes.says (c.in-Some-seen_passes.ensures c.args.on.now.taped x (c.in-Some.ensures x on)))
