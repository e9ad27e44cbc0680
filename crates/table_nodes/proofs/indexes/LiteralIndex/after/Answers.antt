use Rattle.std.proofs.Common.{sym, arith}
use Rattle.table_nodes.specs.Codes.{bucket_of}
use Rattle.table_nodes.proofs.Asking.{past_next}
use Rattle.table_nodes.proofs.indexes.LiteralIndex.after.Goals as goal

pub returns : goal.returns
returns c = λ bs k x from is next inside.
    let first = c.first-first.result in
    let f = c.first-first.ensures in
    rw (sym f) (past_next bs (bucket_of k x) from c.args.asked.literal first c.past.result next.0 (omega (arith, f, next.0.0, next.1.0)) (omega (arith, f)) (omega (arith, f, inside)) (λ j e. c.past.ensures.same j bs (bucket_of k x) is e) c.past.ensures.other, past_next bs k from c.args.asked.other first c.past-2.result next.1 (omega (arith, f, next.0.0, next.1.0)) (omega (arith, f)) (omega (arith, f, inside)) (λ j e. c.past-2.ensures.same j bs k is e) c.past-2.ensures.other)
