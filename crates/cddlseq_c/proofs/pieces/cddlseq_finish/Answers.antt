use Rattle.std.proofs.Common.{refl, sym, subst}
use Rattle.cddlseq_c.specs.Fed.{Fed}
use Rattle.cddlseq_c.specs.Handles.{by_it, by_nothing}
use Rattle.cddlseq_c.specs.Pieces.{IsFinished}
use Rattle.cddlseq_c.proofs.pieces.cddlseq_finish.Goals as goal

pub returns-in_default : goal.returns-in_default
returns-in_default c = by_nothing (sym c.in_default.ensures.taken) (record { none = c.take.ensures.left; unused = refl; end = refl })

pub returns : goal.returns
returns c =
    by_it c.in-Some.held.value (sym c.in-Some.ensures.taken) c.finish-status.result
    (record { now = c.finish-status.new.self; held = c.put.ensures; is = subst (λ (f : Fed). IsFinished f c.finish-status.new.self c.args.end.now c.finish-status.new.told c.finish-status.result) c.deref_mut.ensures.value c.finish-status.ensures })
