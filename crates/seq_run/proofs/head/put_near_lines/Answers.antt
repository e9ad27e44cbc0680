use Rattle.std.proofs.Common.{◌+◌, slice_index_or, arith}
use Rattle.seq_run.proofs.Heads.{line_put, lines_more, near_more}
use Rattle.seq_run.proofs.head.put_near_lines.Goals as goal

pub loop-i-preserved : goal.loop-i-preserved
loop-i-preserved c =
    let i = c.loop-i.i in
    let ns = c.args.numbers.now in (
      λ m p n o h near_n near_o number_is offset_is.
          lines_more n o ns i c.loop-i-test.true (c.loop-i.invariant.0 m p n o h near_n near_o number_is offset_is)
          (line_put (n + i) (o + i) (slice_index_or ns i 0)
          (c.put_near-start.ensures.put m p (n + i) (o + i) h (near_more m n i c.args.number_last near_n number_is (omega (arith, c.requires.number, c.loop-i-test.true))) (near_more p o i c.args.offset_last near_o offset_is (omega (arith, c.requires.offset, c.loop-i-test.true)))
          (omega (arith, number_is, c.requires.number, c.loop-i-test.true)) (omega (arith, offset_is, c.requires.offset, c.loop-i-test.true))) c.put_rest-end.ensures.put),
      (omega (arith, c.loop-i.invariant.1.0, c.put_near-start.ensures.short, c.put_rest-end.ensures.short), omega (arith, c.put_rest-end.auto.out, c.put_near-start.auto.out, c.loop-i.invariant.1.1)),
    )
