use Rattle.std.proofs.Common.{subst, sym}
use Rattle.seq_run.specs.Running.{change_of}
use Rattle.cddl_tool.proofs.Refusing.{Tells, tells_fault, tells_memory}
use Rattle.cddl_tool.proofs.acting.say_unread.Goals as goal

pub returns-in-At : goal.returns-in-At
returns-in-At g c =
    subst (λ w. Tells c.args.options.now c.args.text.now w (change_of g.E.Write.contents c.args.err.now c.say_refused.new.err) c.say_refused.result) (sym c.in-At.is)
    (tells_fault c.args.options.now c.args.text.now (record { code = c.in-At.code; at = c.in-At.at }) (change_of g.E.Write.contents c.args.err.now c.say_refused.new.err) c.say_refused.result c.say_refused.ensures)

pub returns-in-Memory : goal.returns-in-Memory
returns-in-Memory g c =
    subst (λ w. Tells c.args.options.now c.args.text.now w (change_of g.E.Write.contents c.args.err.now c.say_no_memory.new.err) c.say_no_memory.result) (sym c.in-Memory.is)
    (tells_memory c.args.options.now c.args.text.now (change_of g.E.Write.contents c.args.err.now c.say_no_memory.new.err) c.say_no_memory.result c.say_no_memory.ensures.status (λ kept few. c.say_no_memory.ensures.line kept few))
