use Rattle.std.proofs.Common.{◌≡◌, sym, subst, ◌∙◌}
use Rattle.std.specs.Prelude.{true}
use Rattle.cddl_meaning.specs.Forms.{is_passed_over}
use Rattle.cddl_match.specs.Entering.{IsAskedNext}
use Rattle.cddl_match.specs.Machine.{WaitsAt, last_of, pending_in}
use Rattle.match_moves.specs.Views.{move_view, sorting_view}
use Rattle.match_moves.specs.declared.questions.Move.TheVariants as D
use Rattle.table_nodes.specs.Language.{language_of}
use Rattle.table_nodes.specs.Nodes.{entries_view, entry_view}
use Rattle.cddl_match.proofs.Passing.{asked_next}
use Rattle.cddl_match.proofs.Running.{at_left, at_passed}
use Rattle.cddl_match.proofs.stack.pass_over.Goals as goal

pub returns-clause-comes : goal.returns-clause-comes
returns-clause-comes c = λ first taken at.
    let l = language_of c.args.table.now in
    let ws = c.args.run.now.waiting.items in
    let o = last_of (pending_in ws) in
    let e = c.in-Enters-next.entering in
    let s = sorting_view e.sorting in
    let next : c.args.run.now.next ≡ D.Enters e = cc (c.replace-next.ensures.value, c.in-Enters-next.is) in
    let same : c.in-Enters.entering ≡ e = cc (next, c.in-Enters.is) in
    let passed : is_passed_over l.counting (entry_view e.entry.now).key_type s.key ≡ true = rw same at (sym c.is_passed_over.ensures ∙ c.if-not-is_passed_over.false) in
    let here = subst (λ m. WaitsAt l first taken ws (move_view m o)) next at in
    subst (λ m. WaitsAt l first taken ws m) (sym (c.next_entry.ensures o)) (at_left l s (entries_view e.others.now) (entries_view c.asked_from-left.result.now) c.asked_from-left.ensures.passed (at_passed l passed here))

pub returns-clause-asked : goal.returns-clause-asked
returns-clause-asked c =
    let l = language_of c.args.table.now in
    let o = last_of (pending_in c.args.run.now.waiting.items) in
    let s = sorting_view c.in-Enters-next.entering.sorting in
    subst (IsAskedNext l) (sym (c.next_entry.ensures o)) (asked_next l (entries_view c.asked_from-left.result.now) s c.asked_from-left.ensures.asked)
