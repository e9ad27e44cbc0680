use Rattle.std.proofs.Common.{refl}
use Rattle.seq_run.specs.Judge.{judge_of}
use Rattle.seq_run.specs.Running.{change_of}
use Rattle.cddl_tool.proofs.Reasoning.{answered_alone, broken_alone}
use Rattle.cddl_tool.proofs.acting.act.Goals as goal

pub returns-clause-answered : goal.returns-clause-answered
returns-clause-answered g c = λ other h.
    answered_alone c.args.options.now (judge_of c.args.table.now c.args.options.now.steps) (change_of g.W.Write.contents c.args.out.now c.perform.new.out) (change_of g.E.Write.contents c.args.err.now c.perform.new.err)
    _ c.perform.result (c.perform.ensures.answered other h)

pub returns-clause-quiet : goal.returns-clause-quiet
returns-clause-quiet g c = λ other h. c.perform.ensures.quiet other refl h

pub returns-clause-broken : goal.returns-clause-broken
returns-clause-broken g c = λ other h.
    broken_alone c.args.options.now (judge_of c.args.table.now c.args.options.now.steps) (change_of g.W.Write.contents c.args.out.now c.perform.new.out) (change_of g.E.Write.contents c.args.err.now c.perform.new.err)
    (change_of g.R.Read.remaining c.args.input.now c.perform.new.input) (c.perform.ensures.broken other h)
