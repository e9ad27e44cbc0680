use Rattle.std.proofs.Common.{◌≡◌, sym, subst, ◌∙◌}
use Rattle.std.specs.Prelude.{false, true}
use Rattle.cddl_meaning.specs.Forms.{is_passed_over}
use Rattle.cddl_match.specs.Open.{AreOpenWith}
use Rattle.cddl_match.proofs.Lemmas.{open_entered, open_passed}
use Rattle.match_moves.specs.Views.{sorting_view}
use Rattle.table_nodes.specs.Language.{language_of}
use Rattle.table_nodes.specs.Nodes.{entry_view}
use Rattle.cddl_reasons.proofs.turns.come_to.Goals as goal

pub returns-then-not-is_passed_over : goal.returns-then-not-is_passed_over
returns-then-not-is_passed_over c = λ first qs os h.
    let l = language_of c.args.table.now in
    let e = c.args.entering in
    let asked : is_passed_over l.counting (entry_view e.entry.now).key_type (sorting_view e.sorting).key ≡ false = sym c.is_passed_over.ensures ∙ c.if-not-is_passed_over.true in
    subst (λ m. AreOpenWith l first qs os m) (sym c.enter.ensures) (open_entered l asked h)

pub returns : goal.returns
returns c = λ first qs os h.
    let l = language_of c.args.table.now in
    let e = c.args.entering in
    let passed : is_passed_over l.counting (entry_view e.entry.now).key_type (sorting_view e.sorting).key ≡ true = sym c.is_passed_over.ensures ∙ c.if-not-is_passed_over.false in
    subst (λ m. AreOpenWith l first qs os m) (sym (c.next_entry.ensures _)) (open_passed l passed h)
