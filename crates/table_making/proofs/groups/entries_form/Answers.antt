use Rattle.std.proofs.Common.{◌∙◌}
use Rattle.cddl_language.specs.Terms.{entry_list}
use Rattle.table_making.proofs.Forming.{entries_formed, list_of_entries}
use Rattle.table_making.proofs.Knowing.{each_entry}
use Rattle.table_making.proofs.groups.entries_form.Goals as goal

pub returns-in-Ok-entry_origins : goal.returns-in-Ok-entry_origins
returns-in-Ok-entry_origins c s es is re = entries_formed s c.args.terms.now (entry_list es) c.in-Ok.rows.items c.in-Ok-entry_origins.origins.items (each_entry s es re) (c.in-Ok.ensures es is) (c.in-Ok-entry_origins.ensures ∙ list_of_entries c.deref.ensures.value)
