use Rattle.std.proofs.Common.{◌≡◌, ◌+◌, ◌-◌, ◌∷◌, [], ◌++◌, length, refl, take, ap, ◌∙◌, arith}
use Rattle.match_moves.specs.Views.{reply_view}
use Rattle.cddl_match.specs.declared.stack.Waiting.{Waiting}
use Rattle.cddl_match.proofs.Running.{end_or_none, last_there, last_written, reply_step, some_last}
use Rattle.cddl_match.proofs.stack.reply_to_last.Goals as goal

pub returns-then-count-lt2-clause-finds : goal.returns-then-count-lt2-clause-finds
returns-then-count-lt2-clause-finds c = λ l steps first at within. end_or_none l first steps c.args.run.now.taken c.args.run.now.waiting.items (reply_view c.args.reply) within at (omega (arith, c.len-count.ensures, c.if-count-lt2.true))

pub returns-clause-goes : goal.returns-clause-goes
returns-clause-goes c = λ e l steps first at within.
    let all = c.args.run.now.waiting.items in
    let xs = c.truncate.new.self.items in
    let k = c.len-count.result - 2 in
    let v = c.index_mut-last.result.now in
    let u : Waiting = record { asked = v.asked; pending = c.next_move.new.pending } in
    let w = some_last all (c.len-count.result - 1) (omega (arith, c.len-count.ensures, c.if-count-lt2.false)) in
    let many : k + 1 ≡ length xs = omega (arith, c.len-count.ensures, c.if-count-lt2.false, c.truncate.ensures.len) in
    let there = last_there xs k v many c.index_mut-last.ensures.value in
    let items : all ≡ (take k xs ++ v ∷ []) ++ w.0 ∷ [] = w.1 ∙ ap (λ ys. ys ++ w.0 ∷ []) (rw (← c.truncate.ensures.items) there) in
    reply_step l first steps _ _ (take k xs) v u w.0 c.requires.owed refl refl within at items (last_written xs k u many) refl c.next_move.ensures
