use Rattle.std.proofs.Common.{refl, ◌∙◌}
use Rattle.seq_run.specs.Judge.{judge_of}
use Rattle.cddlseq_c.specs.Answers.{wanted_untold}
use Rattle.cddlseq_c.proofs.Telling.{told_wanted, without_room}
use Rattle.cddlseq_c.proofs.running.tell_wanted.Goals as goal

pub returns-then-put : goal.returns-then-put
returns-then-put c =
    told_wanted c.args.wanted (judge_of c.args.ready.now.table c.args.ready.now.steps) c.args.ready.now.limits c.args.stream.now c.args.told.now c.told_end.result c.args.out.now c.put.new.out c.in-Ok.bytes.items c.in-Ok.end c.len.result c.status_of.result
    c.in-Ok.ensures c.told_end.ensures (c.len.ensures ∙ c.in-Ok.bytes.ok.0) c.put.result (rw c.as_slice.ensures.value at c.put.ensures) c.if-put.true c.status_of.ensures

pub returns-in-Ok : goal.returns-in-Ok
returns-in-Ok c =
    without_room c.args.wanted (judge_of c.args.ready.now.table c.args.ready.now.steps) c.args.ready.now.limits c.args.stream.now c.args.told.now c.told_end.result c.args.out.now c.put.new.out c.in-Ok.bytes.items c.in-Ok.end c.len.result
    c.in-Ok.ensures c.told_end.ensures (c.len.ensures ∙ c.in-Ok.bytes.ok.0) c.put.result (rw c.as_slice.ensures.value at c.put.ensures) c.if-put.false

pub returns : goal.returns
returns c = wanted_untold refl refl refl
