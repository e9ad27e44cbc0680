use Rattle.std.proofs.Common.{refl}
use Rattle.cddlseq_c.specs.Answers.{accepted}
use Rattle.cddlseq_c.proofs.Telling.{stopped_check}
use Rattle.cddlseq_c.proofs.cddlseq_check.Goals as goal

pub returns-in-Ok : goal.returns-in-Ok
returns-in-Ok c = accepted c.in-Ok.table c.in-Ok.ensures.tabled refl

pub returns-in-Err : goal.returns-in-Err
returns-in-Err c = stopped_check c.args.text.now c.args.root.now c.tell_stop.new.told c.in-Err.why c.tell_stop.result c.in-Err.ensures.untabled c.tell_stop.ensures.status c.tell_stop.ensures.told
