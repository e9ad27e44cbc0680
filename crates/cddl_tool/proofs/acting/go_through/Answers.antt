use Rattle.std.proofs.Common.{option_copied, option_map}
use Rattle.seq_run.specs.Judge.{judge_of}
use Rattle.seq_run.specs.Running.{change_of}
use Rattle.cddl_tool.proofs.Telling.{answered, broken, fault_told, none_wanted}
use Rattle.cddl_tool.proofs.acting.go_through.Goals as goal

pub returns-in-Ok-clause-answered :
    goal.returns-in-Ok-clause-answered
returns-in-Ok-clause-answered g c = λ h.
    answered c.args.options.now (judge_of c.args.table.now c.args.options.now.steps) (option_map (λ t. t.now) c.args.text) (change_of g.R.Read.remaining c.args.input.now c.run_shown.new.input) (change_of g.W.Write.contents c.args.out.now c.run_shown.new.output) (change_of g.E.Write.contents c.args.err.now c.tell_end-status.new.err)
    c.mode_for-mode.result c.mode_for-mode.ensures c.limits_for-limits.result c.limits_for-limits.ensures c.in-Ok.end c.in-Ok.rejected (option_copied c.as_ref.result) c.as_ref.ensures.value c.tell_end-status.result c.in-Ok.ensures.reported c.tell_end-status.ensures.told h

pub returns-in-Ok-clause-broken : goal.returns-in-Ok-clause-broken
returns-in-Ok-clause-broken g c = λ h.
    broken c.args.options.now (judge_of c.args.table.now c.args.options.now.steps) (option_map (λ t. t.now) c.args.text) (change_of g.R.Read.remaining c.args.input.now c.run_shown.new.input) (change_of g.W.Write.contents c.args.out.now c.run_shown.new.output) (change_of g.E.Write.contents c.args.err.now c.tell_end-status.new.err)
    c.mode_for-mode.result c.mode_for-mode.ensures c.limits_for-limits.result c.limits_for-limits.ensures c.in-Ok.end c.in-Ok.rejected (option_copied c.as_ref.result) c.as_ref.ensures.value c.tell_end-status.result c.in-Ok.ensures.reported c.tell_end-status.ensures.told h

pub returns-in-Err-clause-broken :
    goal.returns-in-Err-clause-broken
returns-in-Err-clause-broken g c = λ h.
    fault_told c.args.options.now (judge_of c.args.table.now c.args.options.now.steps) (option_map (λ t. t.now) c.args.text) (change_of g.R.Read.remaining c.args.input.now c.run_shown.new.input) (change_of g.W.Write.contents c.args.out.now c.run_shown.new.output) (change_of g.E.Write.contents c.args.err.now c.say_fault.new.err)
    c.mode_for-mode.result c.mode_for-mode.ensures c.limits_for-limits.result c.limits_for-limits.ensures c.in-Err.fault c.in-Err.ensures.fault c.say_fault.ensures.line

pub returns-in-Err-clause-answered :
    goal.returns-in-Err-clause-answered
returns-in-Err-clause-answered g c = λ h. absurd (h c.say_fault.ensures.status)

pub returns-in-Ok-clause-quiet : goal.returns-in-Ok-clause-quiet
returns-in-Ok-clause-quiet g c = λ other none h. c.tell_end-status.ensures.quiet other (none_wanted _ _ none)

pub returns-in-Err-clause-quiet : goal.returns-in-Err-clause-quiet
returns-in-Err-clause-quiet g c = λ other none h. absurd (h c.say_fault.ensures.status)
