use Rattle.std.proofs.Common.{◌+◌, ◌∙◌, ap, take, refl, arith}
use Rattle.item_nodes.specs.View.{pairs_view}
use Rattle.cddl_meaning.specs.Moves as M
use Rattle.match_moves.specs.Tallies.{counted_again}
use Rattle.match_moves.specs.Views.{tally_view}
use Rattle.table_nodes.specs.Language.{language_of}
use Rattle.table_nodes.specs.Nodes.{entries_view}
use Rattle.cddl_match.proofs.Outcomes.{few}
use Rattle.cddl_match.proofs.Tellings.{again, same_taken, says_so}
use Rattle.cddl_match.proofs.tallied.Tallied.says_again.Goals as goal

pub returns-in_default : goal.returns-in_default
returns-in_default c =
    let l = language_of c.args.table.now in
    few l c.args.means.now.left c.args.means.now.left (again l c.args.self.now.entries.now c.args.entries.now c.args.base c.args.self.now.next c.args.told c.args.self.now.asked (pairs_view c.args.pairs.now) (tally_view c.args.self.now.tally) c.requires.alike (rw c.requires.told at c.requires.known).0) (omega (arith, c.in_default.ensures))

pub returns : goal.returns
returns c =
    let l = language_of c.args.table.now in
    let says = M.tally_says (entries_view c.args.entries.now) c.args.base (counted_again c.args.told (entries_view c.args.entries.now) (tally_view c.args.self.now.tally)) in
    rw (c.said_where.ensures says c.shown_by_first-shown.ensures) (says_so l (M.OfAlternative (entries_view c.args.entries.now) c.args.base (pairs_view c.args.pairs.now)) c.args.means.now.left c.in-Some.left (1 + c.args.self.now.asked) c.args.self.now.next says says (again l c.args.self.now.entries.now c.args.entries.now c.args.base c.args.self.now.next c.args.told c.args.self.now.asked (pairs_view c.args.pairs.now) (tally_view c.args.self.now.tally) c.requires.alike (rw c.requires.told at c.requires.known).0) refl c.in-Some.ensures)

pub shown_by_first-shown-requires-clause-enough : goal.shown_by_first-shown-requires-clause-enough
shown_by_first-shown-requires-clause-enough c = (rw c.requires.told at c.requires.known).1 ∙ ap (λ xs. M.enough_of xs (take c.args.told (tally_view c.args.self.now.tally).counts)) (same_taken c.args.told c.args.self.now.entries.now c.args.entries.now c.requires.alike)
