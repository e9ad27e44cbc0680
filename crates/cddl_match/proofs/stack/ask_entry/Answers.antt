use Rattle.std.proofs.Common.{◌≡◌, ◌-◌, refl, subst, take, arith}
use Rattle.cddl_match.specs.Entering.{IsAskedNext}
use Rattle.cddl_match.specs.Machine.{WaitsAt}
use Rattle.match_moves.specs.Views.{entering_move}
use Rattle.cddl_match.specs.declared.stack.Waiting.{Waiting}
use Rattle.table_nodes.specs.Language.{language_of}
use Rattle.cddl_match.proofs.Running.{at_entry_over, entry_step, last_there, last_written}
use Rattle.cddl_match.proofs.stack.ask_entry.Goals as goal

pub returns-then-run-steps-clause-finds : goal.returns-then-run-steps-clause-finds
returns-then-run-steps-clause-finds c = λ t e is i first at within r w d.
    let h = at_entry_over (language_of t) i at r w d in
    omega (arith, h, c.if-run-steps.true)

pub returns-clause-goes : goal.returns-clause-goes
returns-clause-goes c = λ on t e is i first at within.
    let l = language_of t in
    let xs = c.args.run.now.waiting.items in
    let k = c.len-count.result - 1 in
    let v = c.index_mut-last.result.now in
    let u : Waiting = record { asked = v.asked; pending = c.enter.new.pending } in
    let same : e ≡ c.in-Enters.entering = cc (is, c.replace-next.ensures.value, c.in-Enters.is) in
    let asked = subst (λ e. IsAskedNext l (entering_move e)) same i in
    let here = subst (λ e. WaitsAt l first c.args.run.now.taken xs (entering_move e)) same at in
    entry_step l first c.args.steps _ _ (take k xs) v u refl asked c.requires.owed refl refl c.if-run-steps.false here (last_there xs k v (omega (arith, c.len-count.ensures, c.if-count-eq0.false)) c.index_mut-last.ensures.value) (last_written xs k u (omega (arith, c.len-count.ensures, c.if-count-eq0.false))) refl c.enter.ensures
