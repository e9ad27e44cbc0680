use Rattle.std.proofs.Common.{refl, sym, subst}
use Rattle.seq_run.specs.Judge.{judge_of}
use Rattle.cddlseq_c.specs.Answers.{IsToldEnd}
use Rattle.cddlseq_c.specs.Handles.{by_it, by_nothing}
use Rattle.cddlseq_c.specs.Held.{Held}
use Rattle.cddlseq_c.proofs.opening.cddlseq_validate_by.Goals as goal

pub returns-in_default-clause-told : goal.returns-in_default-clause-told
returns-in_default-clause-told c = by_nothing (sym c.in_default.ensures.taken) refl

pub returns-clause-told : goal.returns-clause-told
returns-clause-told c =
    by_it c.in-Some.held.value (sym c.in-Some.ensures.taken) c.tell_end-status.result
    (subst (λ (h : Held). IsToldEnd (judge_of h.table h.steps) h.limits c.args.stream.now c.args.end.now c.tell_end-status.new.told c.tell_end-status.result) c.deref.ensures c.tell_end-status.ensures)
