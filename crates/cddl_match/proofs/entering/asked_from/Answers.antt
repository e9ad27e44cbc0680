use Rattle.std.proofs.Common.{sym, ap, ◌∙◌}
use Rattle.item_nodes.specs.View.{view}
use Rattle.table_nodes.specs.Language.{language_of}
use Rattle.table_nodes.specs.Nodes.{entries_view, entry_view}
use Rattle.cddl_match.proofs.Passing.{one_more_passed}
use Rattle.cddl_match.proofs.entering.asked_from.Goals as goal

pub loop-entry-preserved : goal.loop-entry-preserved
loop-entry-preserved c =
    let e = entry_view c.in-Some.entry.now in
    one_more_passed (language_of c.args.table.now) (view c.args.key.now) e (entries_view c.args.entries.now) (entries_view c.loop-entry.left.now) (entries_view c.in-Some.others.now) (ap entries_view c.in-Some.ensures.cases.0) (sym c.is_passed_over.ensures ∙ c.if-not-is_passed_over.false) c.loop-entry.invariant
