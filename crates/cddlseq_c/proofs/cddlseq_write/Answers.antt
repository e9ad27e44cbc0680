use Rattle.std.proofs.Common.{refl}
use Rattle.cddlseq_c.specs.Answers.{bad_wanted}
use Rattle.cddlseq_c.proofs.Telling.{written_by, unwritten_by}
use Rattle.cddlseq_c.proofs.cddlseq_write.Goals as goal

pub returns-in_default : goal.returns-in_default
returns-in_default c = bad_wanted c.in_default.ensures.none refl refl refl refl

pub returns-in-Ok : goal.returns-in-Ok
returns-in-Ok c =
    written_by c.args.text.now c.args.root.now c.args.limits.now _ c.in-Ok.ready c.in-Ok.ensures.ready refl c.args.stream.now c.args.wanted c.in-Some.wanted c.args.end.now c.tell_wanted.new.told c.args.out.now c.tell_wanted.new.out c.tell_wanted.new.needed c.tell_wanted.result
    c.in-Some.ensures.some c.tell_wanted.ensures

pub returns-in-Err : goal.returns-in-Err
returns-in-Err c =
    unwritten_by c.args.text.now c.args.root.now c.args.limits.now c.tell_stop.new.told c.in-Err.why c.tell_stop.result c.in-Err.ensures.stop c.tell_stop.ensures.status c.tell_stop.ensures.told c.args.stream.now c.args.wanted c.args.end.now c.args.out.now
