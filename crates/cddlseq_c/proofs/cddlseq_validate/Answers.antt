use Rattle.std.proofs.Common.{refl}
use Rattle.cddlseq_c.proofs.Telling.{by_ready, stopped_before}
use Rattle.cddlseq_c.proofs.cddlseq_validate.Goals as goal

pub returns-in-Ok : goal.returns-in-Ok
returns-in-Ok c = by_ready c.args.text.now c.args.root.now c.args.limits.now _ c.in-Ok.ready c.in-Ok.ensures.ready refl c.args.stream.now c.args.end.now c.tell_end.new.told c.tell_end.result c.tell_end.ensures

pub returns-in-Err : goal.returns-in-Err
returns-in-Err c =
    stopped_before c.args.text.now c.args.root.now c.args.limits.now c.tell_stop.new.told c.in-Err.why c.tell_stop.result c.in-Err.ensures.stop c.tell_stop.ensures.status c.tell_stop.ensures.told c.args.stream.now c.args.end.now
