use Rattle.std.proofs.Common.{List, ℕ, Option, IfSome, subst}
use Rattle.item_nodes.specs.Counted.{device_of}
use Rattle.seq_run.specs.Judge.{judge_of}
use Rattle.seq_run.specs.Running.{change_of}
use Rattle.cddl_tool.specs.Reasons.{IsAnsweredWith, IsBrokenWith}
use Rattle.cddl_tool.proofs.Reasoning.{no_text_wanted}
use Rattle.cddl_tool.proofs.watching.act_watched.Goals as goal

pub returns-clause-answered : goal.returns-clause-answered
returns-clause-answered g c = λ other h.
    subst (λ (t : Option (List ℕ)). IfSome (g.R.Read.remaining (device_of c.args.input.now)) (λ stream.
    IsAnsweredWith c.args.options.now (judge_of c.args.table.now c.args.options.now.steps) t stream (change_of g.W.Write.contents c.args.out.now c.perform.new.out) (change_of g.E.Write.contents c.args.err.now c.perform.new.err) c.perform.result))
    c.wanted_text-text.ensures (c.perform.ensures.answered other h)

pub returns-clause-quiet : goal.returns-clause-quiet
returns-clause-quiet g c = λ other plain h. c.perform.ensures.quiet other (no_text_wanted c.args.options.now c.args.text.now _ c.wanted_text-text.ensures plain) h

pub returns-clause-broken : goal.returns-clause-broken
returns-clause-broken g c = λ other h.
    subst (λ (t : Option (List ℕ)). IsBrokenWith c.args.options.now (judge_of c.args.table.now c.args.options.now.steps) t
    (change_of g.R.Read.remaining c.args.input.now c.perform.new.input) (change_of g.W.Write.contents c.args.out.now c.perform.new.out) (change_of g.E.Write.contents c.args.err.now c.perform.new.err))
    c.wanted_text-text.ensures (c.perform.ensures.broken other h)
