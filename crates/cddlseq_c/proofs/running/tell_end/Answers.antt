use Rattle.std.proofs.Common.{refl}
use Rattle.seq_run.specs.Judge.{judge_of}
use Rattle.cddlseq_c.specs.Answers.{end_untold}
use Rattle.cddlseq_c.proofs.Telling.{told_so}
use Rattle.cddlseq_c.proofs.running.tell_end.Goals as goal

pub returns-in-Ok : goal.returns-in-Ok
returns-in-Ok c = told_so (judge_of c.args.ready.now.table c.args.ready.now.steps) c.args.ready.now.limits c.args.stream.now c.args.told.now c.told_end.result c.in-Ok.end c.status_of.result c.in-Ok.ensures c.told_end.ensures c.status_of.ensures

pub returns-in-Err : goal.returns-in-Err
returns-in-Err c = end_untold refl
