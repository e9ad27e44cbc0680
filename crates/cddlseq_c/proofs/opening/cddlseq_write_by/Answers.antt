use Rattle.std.proofs.Common.{refl, sym, subst}
use Rattle.seq_run.specs.Judge.{judge_of}
use Rattle.cddlseq_c.specs.Answers.{IsWrittenBy}
use Rattle.cddlseq_c.specs.Handles.{by_it, by_nothing}
use Rattle.cddlseq_c.specs.Held.{Held}
use Rattle.cddlseq_c.proofs.opening.cddlseq_write_by.Goals as goal

pub returns-in_default-clause-told : goal.returns-in_default-clause-told
returns-in_default-clause-told c = by_nothing (sym c.in_default.ensures.taken) (record { end = refl; out = refl; no_bytes = refl })

pub returns-clause-told : goal.returns-clause-told
returns-clause-told c =
    by_it c.in-Some.held.value (sym c.in-Some.ensures.taken) c.tell_by_number-status.result
    (subst
    (λ (h : Held). IsWrittenBy c.args.wanted (judge_of h.table h.steps) h.limits c.args.stream.now c.args.end.now c.tell_by_number-status.new.told c.args.out.now c.tell_by_number-status.new.out c.tell_by_number-status.new.needed c.tell_by_number-status.result)
    c.deref.ensures
    c.tell_by_number-status.ensures)
