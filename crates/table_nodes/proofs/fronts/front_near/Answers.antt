use Rattle.table_nodes.proofs.Beginning.{found_front}
use Rattle.table_nodes.proofs.fronts.front_near.Goals as goal

pub returns-in-Some : goal.returns-in-Some
returns-in-Some c = λ types ways some others fronts e a b. found_front types c.args.fronts.now c.args.of c.args.way c.in-Some.front.now fronts (rw c.in-Some.is at c.find.ensures) ways some others e a b
