use Rattle.std.proofs.Common.{◌∙◌, sym}
use Rattle.table_nodes.proofs.table.Table.with_told.Goals as goal

pub invariant_of-result : goal.invariant_of-result
invariant_of-result c = record {
  valued = rw c.deref-2.ensures.value at c.in_ok-literals.ensures;
  bound = c.args.self.bound;
  ranked = c.args.self.ranked;
  indexed = c.args.self.indexed;
  begun = c.args.self.begun;
  shown = λ n m t e. sym (rw c.deref.ensures.value at c.in_ok-told.ensures n m) ∙ e;
}
