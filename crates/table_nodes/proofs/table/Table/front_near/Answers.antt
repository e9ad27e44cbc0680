use Rattle.table_nodes.proofs.table.Table.front_near.Goals as goal

pub returns : goal.returns
returns c = λ ways some others e a b. c.front_near.ensures c.args.self.now.types.items ways some others (rw c.deref.ensures.value c.args.self.now.begun) e a b
