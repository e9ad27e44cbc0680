use Rattle.std.proofs.Common.{inl, inr, ◌∙◌}
use Rattle.seq_run.specs.Running.{change_of}
use Rattle.cddl_tool.proofs.Telling.{cut_in, no_subject, untold_text, written_out}
use Rattle.cddl_tool.proofs.acting.explain.Goals as goal

pub returns-in_default-clause-explained : goal.returns-in_default-clause-explained
returns-in_default-clause-explained g c =
    no_subject c.args.word.now (change_of g.W.Write.contents c.args.out.now c.args.out.now) (change_of g.E.Write.contents c.args.err.now c.say_unexplained.new.err) c.say_unexplained.result c.in_default.ensures.none c.say_unexplained.ensures.status
    (elim c.say_unexplained.ensures.line [ inl h ↦ inl (λ kept few. h kept few) | inr h ↦ inr (λ kept few. h kept few) ])

pub returns-in_default-explanation-clause-explained :
    goal.returns-in_default-explanation-clause-explained
returns-in_default-explanation-clause-explained g c =
    untold_text c.args.word.now (change_of g.W.Write.contents c.args.out.now c.args.out.now) (change_of g.E.Write.contents c.args.err.now c.say_no_memory.new.err) c.say_no_memory.result c.say_no_memory.ensures.status (λ kept few. c.say_no_memory.ensures.line kept few)

pub returns-in-Ok-write_bytes-clause-explained : goal.returns-in-Ok-write_bytes-clause-explained
returns-in-Ok-write_bytes-clause-explained g c =
    written_out c.args.word.now c.as_bytes.result.now c.in-Some.subject (change_of g.W.Write.contents c.args.out.now c.write_bytes.new.out) (change_of g.E.Write.contents c.args.err.now c.args.err.now) c.in-Some.ensures.some (c.as_bytes.ensures.value ∙ (c.as_str.ensures.value ∙ c.in-Ok.ensures)) c.in-Ok-write_bytes.ensures.count c.in-Ok-write_bytes.ensures.all

pub returns-clause-explained : goal.returns-clause-explained
returns-clause-explained g c =
    cut_in c.args.word.now c.as_bytes.result.now c.in-Some.subject (change_of g.W.Write.contents c.args.out.now c.write_bytes.new.out) (change_of g.E.Write.contents c.args.err.now c.say_write_failed.new.err) c.in-Err.fault.written c.say_write_failed.result c.in-Some.ensures.some (c.as_bytes.ensures.value ∙ (c.as_str.ensures.value ∙ c.in-Ok.ensures))
    c.in-Err.ensures.failed c.in-Err.ensures.short c.in-Err.ensures.part c.say_write_failed.ensures.status (λ kept few. c.say_write_failed.ensures.line kept few)
