use Rattle.std.proofs.Common.{◌∙◌, ap, sym}
use Rattle.std.specs.List.{drop-map}
use Rattle.table_nodes.specs.Nodes.{entries_view, entry_view}
use Rattle.cddl_match.proofs.entering.entries_from.Goals as goal

pub returns-in-Some : goal.returns-in-Some
returns-in-Some c = ap entries_view c.in-Some.ensures.cases.2 ∙ sym (drop-map entry_view c.args.at c.args.entries.now)
