use Rattle.seq_run.specs.Running.{change_of}
use Rattle.cddl_tool.specs.Acting.{whole}
use Rattle.cddl_tool.proofs.Telling.{cut_told}
use Rattle.cddl_tool.proofs.acting.accept.Goals as goal

pub returns-in-Ok-clause-accepted : goal.returns-in-Ok-clause-accepted
returns-in-Ok-clause-accepted g c = whole c.in-Ok.ensures.count c.in-Ok.ensures.all

pub returns-in-Err-clause-accepted : goal.returns-in-Err-clause-accepted
returns-in-Err-clause-accepted g c =
    cut_told (change_of g.W.Write.contents c.args.out.now c.write_bytes.new.out) (change_of g.E.Write.contents c.args.err.now c.say_write_failed.new.err) c.in-Err.fault.written c.say_write_failed.result
    c.in-Err.ensures.failed c.in-Err.ensures.short c.in-Err.ensures.part c.say_write_failed.ensures.status (λ kept few. c.say_write_failed.ensures.line kept few)
