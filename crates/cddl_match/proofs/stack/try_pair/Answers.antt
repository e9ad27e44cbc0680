use Rattle.std.proofs.Common.{◌≡◌, refl, subst, arith}
use Rattle.cddl_meaning.specs.Moves as M
use Rattle.cddl_match.specs.Machine.{WaitsAt}
use Rattle.match_moves.specs.Views.{sorting_view}
use Rattle.table_nodes.specs.Language.{language_of}
use Rattle.cddl_match.proofs.Running.{at_pair_over, try_step}
use Rattle.cddl_match.proofs.stack.try_pair.Goals as goal

pub returns-then-run-steps-clause-finds : goal.returns-then-run-steps-clause-finds
returns-then-run-steps-clause-finds c = λ t s is first at within r w d.
    let h = at_pair_over (language_of t) at r w d in
    omega (arith, h, c.if-run-steps.true)

pub returns-clause-goes : goal.returns-clause-goes
returns-clause-goes c = λ e t s is first at within.
    let same : s ≡ c.in-Tries.sorting = cc (is, c.replace-next.ensures.value, c.in-Tries.is) in
    let here = subst (λ s. WaitsAt (language_of t) first c.args.run.now.taken c.args.run.now.waiting.items (M.Tries (sorting_view s))) same at in
    try_step (language_of t) first c.args.steps _ _ refl c.requires.owed refl refl c.if-run-steps.false here refl (c.next_entry.ensures _)
