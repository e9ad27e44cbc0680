use Rattle.std.proofs.Common.{◌≡◌, ◌+◌, ◌-◌, inl, length, refl, take, sym, ap, ◌∙◌, arith}
use Rattle.std.specs.Vec.{with_item}
use Rattle.cddl_meaning.specs.Judges.{Fails}
use Rattle.cddl_meaning.specs.Moves as M
use Rattle.cddl_match.specs.Machine.{asked_in, asks_in, found_in}
use Rattle.match_moves.specs.Views.{reading_move}
use Rattle.match_tests.specs.Views.{subject_view}
use Rattle.match_moves.specs.declared.questions.Pending.TheVariants as P
use Rattle.match_moves.specs.declared.questions.PendingType.TheVariants as T
use Rattle.cddl_match.specs.declared.stack.Run.{Run}
use Rattle.cddl_match.specs.declared.stack.Waiting.{Waiting}
use Rattle.table_nodes.specs.Language.{language_of}
use Rattle.table_nodes.specs.Nodes.{content_view}
use Rattle.cddl_match.proofs.Running.{at_unread, found_from, last_there, last_written, read_on, same_asked, step_of}
use Rattle.cddl_match.proofs.stack.read.Goals as goal

pub returns-in-Ok-None-clause-goes : goal.returns-in-Ok-None-clause-goes
returns-in-Ok-None-clause-goes c = λ e first at within.
    let none = rw c.in-Ok-None.field-0-is at c.in-Ok-None.ensures in
    c.reply_to_last.ensures.goes e (language_of c.args.table.now) c.args.steps first (at_unread (language_of c.args.table.now) none at) within

pub returns-in-Ok-None-clause-finds : goal.returns-in-Ok-None-clause-finds
returns-in-Ok-None-clause-finds c =
    let l = language_of c.args.table.now in
    let none = rw c.in-Ok-None.field-0-is at c.in-Ok-None.ensures in
    found_from l c.args.steps c.args.run.now c.args.run.now (M.Answered (Fails c.args.reading.place)) (reading_move c.args.reading) (found_in c.reply_to_last.result c.reply_to_last.new.run.next) refl (λ first at. at_unread l none at) (c.reply_to_last.ensures.finds l c.args.steps)

pub returns-clause-goes : goal.returns-clause-goes
returns-clause-goes c = λ e first at within.
    let l = language_of c.args.table.now in
    let r = c.args.reading in
    let xs = c.args.run.now.waiting.items in
    let k = c.len-count.result - 1 in
    let v = c.index_mut-last.result.now in
    let u : Waiting = record { asked = v.asked; pending = P.Type (T.Held r.place r.next) } in
    let many : k + 1 ≡ length xs = omega (arith, c.len-count.ensures, c.if-count-eq0.false) in
    let held = rw c.in-Ok-Some.field-0-is at c.in-Ok-Some.ensures in
    let there = last_there xs k v many c.index_mut-last.ensures.value in
    let written = last_written xs k u many in
    let now = read_on l first c.args.run.now.taken xs _ (take k xs) v u (content_view r.content) r.bytes.now r.node r.place r.next (subject_view c.in-Ok-Some.subject) held there written refl refl at in
    step_of l first c.args.steps _ _ _ refl (ap asked_in written ∙ same_asked (take k xs) v u refl ∙ sym (ap asked_in there)) (c.ask.ensures.goes e first now within)

pub returns-clause-finds : goal.returns-clause-finds
returns-clause-finds c =
    let l = language_of c.args.table.now in
    let r = c.args.reading in
    let xs = c.args.run.now.waiting.items in
    let k = c.len-count.result - 1 in
    let v = c.index_mut-last.result.now in
    let u : Waiting = record { asked = v.asked; pending = P.Type (T.Held r.place r.next) } in
    let many : k + 1 ≡ length xs = omega (arith, c.len-count.ensures, c.if-count-eq0.false) in
    let held = rw c.in-Ok-Some.field-0-is at c.in-Ok-Some.ensures in
    let there = last_there xs k v many c.index_mut-last.ensures.value in
    let written = last_written xs k u many in
    let mid : Run = record { waiting = with_item c.args.run.now.waiting k u; next = c.args.run.now.next; taken = c.args.run.now.taken; owed = c.args.run.now.owed } in
    found_from l c.args.steps c.args.run.now mid (asks_in mid (M.OfType r.node 0 (subject_view c.in-Ok-Some.subject))) (reading_move r) (found_in c.ask.result c.ask.new.run.next) refl (λ first at. read_on l first c.args.run.now.taken xs _ (take k xs) v u (content_view r.content) r.bytes.now r.node r.place r.next (subject_view c.in-Ok-Some.subject) held there written refl refl at) c.ask.ensures.finds

pub returns-clause-kept : goal.returns-clause-kept
returns-clause-kept c = λ e.
    let xs = c.args.run.now.waiting.items in
    let k = c.len-count.result - 1 in
    let v = c.index_mut-last.result.now in
    let u : Waiting = record { asked = v.asked; pending = P.Type (T.Held c.args.reading.place c.args.reading.next) } in
    let many : k + 1 ≡ length xs = omega (arith, c.len-count.ensures, c.if-count-eq0.false) in
    let there = last_there xs k v many c.index_mut-last.ensures.value in
    inl ((c.ask.ensures.kept e).asked ∙ ap asked_in (last_written xs k u many) ∙ same_asked (take k xs) v u refl ∙ sym (ap asked_in there))

pub returns-clause-left : goal.returns-clause-left
returns-clause-left c = λ e.
    let xs = c.args.run.now.waiting.items in
    let k = c.len-count.result - 1 in
    let v = c.index_mut-last.result.now in
    let u : Waiting = record { asked = v.asked; pending = P.Type (T.Held c.args.reading.place c.args.reading.next) } in
    let many : k + 1 ≡ length xs = omega (arith, c.len-count.ensures, c.if-count-eq0.false) in
    let there = last_there xs k v many c.index_mut-last.ensures.value in
    let kept = c.ask.ensures.kept (λ on. cc (e, on)) in
    record { asked = kept.asked ∙ ap asked_in (last_written xs k u many) ∙ same_asked (take k xs) v u refl ∙ sym (ap asked_in there); taken = kept.taken }
