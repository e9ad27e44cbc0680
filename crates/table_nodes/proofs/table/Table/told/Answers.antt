use Rattle.std.proofs.Common.{◌∙◌, sym}
use Rattle.table_nodes.specs.Language.{language_of}
use Rattle.table_nodes.specs.Majors.{most_shown, types_in}
use Rattle.table_nodes.proofs.Showing.{in_language, tells}
use Rattle.table_nodes.proofs.table.Table.told.Goals as goal

pub returns-clause-shown : goal.returns-clause-shown
returns-clause-shown c = λ t e. c.args.self.now.shown c.args.id c.args.major t (sym (rw c.deref.ensures.value at c.known_of.ensures) ∙ e)

pub returns-clause-says : goal.returns-clause-says
returns-clause-says c = λ t e.
    let table = c.args.self.now in
    tells (language_of table) (types_in table.types.items) (in_language table.types.items table.groups.items) most_shown c.args.id c.args.major t (table.shown c.args.id c.args.major t (sym (rw c.deref.ensures.value at c.known_of.ensures) ∙ e))
