use Rattle.std.proofs.Common.{◌∙◌, ap}
use Rattle.cddl_tree.proofs.entry.with_entry.Goals as goal
use Rattle.cddl_tree.proofs.Contents.{view_entries-push}
use Rattle.cddl_tree.specs.Frames.{view_entries}

pub returns-in-Ok : goal.returns-in-Ok
returns-in-Ok c read = ap (view_entries read) c.in-Ok.ensures.items ∙ view_entries-push read c.args.entries.items c.args.grpent c.args.comma
