use Rattle.std.proofs.Common.{[], sym, subst, ◌∙◌}
use Rattle.lists.proofs.Lemmas.{none_more}
use Rattle.check_instances.specs.Closed.Spines.{IsWalked, ends}
use Rattle.check_instances.proofs.OfClosed.Walks.{IsSoFar, falls, one_further, none_so_far}
use Rattle.check_instances.proofs.closed.spines.walk.Goals as goal

pub loop-before-init : goal.loop-before-init
loop-before-init c = subst (λ qs. IsSoFar c.args.spine c.args.terms.now.rows c.args.row qs c.args.row) (sym c.new-parts.ensures.items) (none_so_far c.args.spine c.args.terms.now.rows c.args.row)

pub loop-before-smaller : goal.loop-before-smaller
loop-before-smaller c = falls c.args.spine c.args.terms.now c.is_table.ensures c.loop-before.end c.in-Some.before c.in-Some.part (sym c.in-Some.ensures)

pub loop-before-preserved : goal.loop-before-preserved
loop-before-preserved c = subst (λ qs. IsSoFar c.args.spine c.args.terms.now.rows c.args.row qs c.in-Some.before) (sym c.in_ok-push.ensures.items) (one_further c.args.spine c.args.terms.now.rows c.args.row c.loop-before.parts.items c.loop-before.end c.in-Some.before c.in-Some.part (sym c.in-Some.ensures) c.loop-before.invariant)

pub returns : goal.returns
returns c = subst (λ qs. IsWalked c.args.spine c.args.terms.now.rows c.args.row qs c.loop-before.end) (none_more c.loop-before.parts.items) (c.loop-before.invariant [] c.loop-before.end (ends (sym c.split.ensures ∙ c.in_default.is)))
