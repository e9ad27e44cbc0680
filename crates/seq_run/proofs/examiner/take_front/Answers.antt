use Rattle.std.proofs.Common.{rules}
use Rattle.seq_run.specs.Smalls.{none}
use Rattle.seq_run.proofs.Reporting.{range_from}
use Rattle.seq_run.proofs.Smalls.{front_taken}
use Rattle.seq_run.proofs.examiner.take_front.Goals as goal

pub loop-count-init : goal.loop-count-init
loop-count-init c = none

pub loop-count-preserved : goal.loop-count-preserved
loop-count-preserved c =
    front_taken c.args.piece.now c.loop-count.count c.in-Some.field-0 _ c.loop-count-test.true (range_from c.loop-count.count c.args.piece.now) c.loop-count.invariant (c.is_marked.ensures.0 c.if-not-is_marked.false)
    (c.in-Some.ensures.exactly.0 (search rules)) c.in-Some.ensures.taken
