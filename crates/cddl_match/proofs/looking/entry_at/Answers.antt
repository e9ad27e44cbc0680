use Rattle.std.proofs.Common.{ap, ◌∙◌}
use Rattle.table_nodes.specs.Language.{language_of}
use Rattle.table_nodes.specs.Nodes.{group_view}
use Rattle.cddl_match.proofs.Ways.{by_entry, leads_to_entry}
use Rattle.cddl_match.proofs.looking.entry_at.Goals as goal

pub returns : goal.returns
returns c = leads_to_entry (language_of c.args.table.now) c.group_behind-groups.ensures (by_entry (language_of c.args.table.now) (c.in_ok-node.ensures.found ∙ ap group_view c.in-Entry.is) c.type_behind-behind.ensures.passed (rw c.in_ok-behind.was at c.type_behind-behind.ensures.form))
