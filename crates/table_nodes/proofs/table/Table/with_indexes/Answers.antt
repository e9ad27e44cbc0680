use Rattle.table_nodes.proofs.table.Table.with_indexes.Goals as goal

pub invariant_of-result : goal.invariant_of-result
invariant_of-result c = record {
  valued = c.args.self.valued;
  bound = c.args.self.bound;
  ranked = c.args.self.ranked;
  shown = c.args.self.shown;
  indexed = rw c.deref.ensures.value at c.in_ok-indexes.ensures;
  begun = rw c.deref-2.ensures.value at c.in_ok-fronts.ensures;
}
