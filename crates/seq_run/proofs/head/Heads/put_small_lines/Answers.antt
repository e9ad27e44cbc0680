use Rattle.std.proofs.Common.{ap, length, arith, length-drop}
use Rattle.seq_run.proofs.Heads.{some_more}
use Rattle.seq_run.proofs.Reporting.{range_from}
use Rattle.seq_run.proofs.head.Heads.put_small_lines.Goals as goal

pub loop-done-preserved : goal.loop-done-preserved
loop-done-preserved c =
    let done = c.loop-done.done in
    let ns = c.args.numbers.now in
    let inv = c.loop-done.invariant in
    let some = c.put_some_lines-after in (
      some_more c.args.before c.args.offset ns done some.result.1 inv.1.1 inv.0 some.ensures.put,
      (omega (arith, inv.1.0, some.ensures.short), omega (arith, some.ensures.within, ap length (range_from done ns), length-drop done ns, inv.1.1)),
    )
