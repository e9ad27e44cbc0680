use Rattle.std.proofs.Common.{sym, subst, ◌∙◌}
use Rattle.check_terms.proofs.OfFill.Reading.{AreRead, all_read, falls, none_read, one_read}
use Rattle.check_terms.proofs.fill.arguments.arguments_of.Goals as goal

pub loop-argument-init : goal.loop-argument-init
loop-argument-init c = λ ts h. subst (AreRead c.args.terms.now ts c.args.first) (sym c.new-arguments.ensures.items) (none_read c.args.terms.now ts c.args.first h)

pub loop-argument-smaller : goal.loop-argument-smaller
loop-argument-smaller c = falls c.args.terms.now c.is_table.ensures c.loop-argument.left c.in-Some.argument c.in-Some.further (sym c.in-Some.ensures)

pub loop-argument-preserved : goal.loop-argument-preserved
loop-argument-preserved c = λ ts h. subst (AreRead c.args.terms.now ts c.in-Some.further) (sym c.in_ok-push.ensures) (one_read c.args.terms.now ts c.loop-argument.left c.loop-argument.arguments.items c.in-Some.argument c.in-Some.further (sym c.in-Some.ensures) (c.loop-argument.invariant ts h))

pub returns : goal.returns
returns c = λ ts h. all_read c.args.terms.now ts c.loop-argument.left c.loop-argument.arguments.items (sym c.argument_at.ensures ∙ c.in_default.is) (c.loop-argument.invariant ts h)
