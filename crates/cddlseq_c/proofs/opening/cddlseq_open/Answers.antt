use Rattle.std.proofs.Common.{Some, refl, ap, ◌∙◌}
use Rattle.cddlseq_c.specs.Handles.{opened, unopened}
use Rattle.cddlseq_c.specs.declared.stop.Stop.TheVariants as stop
use Rattle.cddlseq_c.proofs.Telling.{stopped_opening}
use Rattle.cddlseq_c.proofs.opening.cddlseq_open.Goals as goal

pub returns-in-Ok-new : goal.returns-in-Ok-new
returns-in-Ok-new c = opened c.in-Ok.ready c.in-Ok.ensures.ready refl (c.put.ensures ∙ ap Some c.in-Ok-new.ensures.ok)

pub returns-in-Ok : goal.returns-in-Ok
returns-in-Ok c = unopened stop.Memory tt refl refl

pub returns : goal.returns
returns c =
    stopped_opening c.args.text.now c.args.root.now c.args.limits.now c.tell_stop.new.told c.in-Err.why c.tell_stop.result c.in-Err.ensures.stop c.tell_stop.ensures.status c.tell_stop.ensures.told (λ ready. ready) c.args.handle.now.value
