use Rattle.cddl_language.proofs.OfWritten.Meant.{content_meant, entries_meant, group_meant, reference_meant, types_meant}
use Rattle.cddl_language.proofs.written.reached_values.Goals as goal

pub returns-clause-reference : goal.returns-clause-reference
returns-clause-reference c = reference_meant

pub returns-clause-types : goal.returns-clause-types
returns-clause-types c = types_meant

pub returns-clause-alternatives : goal.returns-clause-alternatives
returns-clause-alternatives c = entries_meant

pub returns-clause-opened_group : goal.returns-clause-opened_group
returns-clause-opened_group c = group_meant

pub returns-clause-content : goal.returns-clause-content
returns-clause-content c = content_meant
