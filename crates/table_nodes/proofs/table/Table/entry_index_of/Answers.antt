use Rattle.table_nodes.specs.Nodes.{entries_view}
use Rattle.table_nodes.proofs.Asking.{found_way}
use Rattle.table_nodes.proofs.table.Table.entry_index_of.Goals as goal

pub returns : goal.returns
returns c = λ ways e there. found_way c.args.self.now.types.items c.args.self.now.indexes.items c.args.map c.args.way ways (entries_view c.args.entries.now) c.index_at.result c.args.self.now.indexed e there (rw c.deref.ensures.value at c.index_at.ensures)
