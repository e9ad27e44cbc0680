use Rattle.table_nodes.proofs.Asking.{found}
use Rattle.table_nodes.proofs.table.Table.index_of.Goals as goal

pub returns : goal.returns
returns c = λ e. found c.args.self.now.types.items c.args.self.now.indexes.items c.args.choice 0 c.args.members.now c.index_at.result c.args.self.now.indexed e (rw c.deref.ensures.value at c.index_at.ensures)
