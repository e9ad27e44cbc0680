-- What the code reads.
use Rattle.check_terms.specs.Table.{Table}
use Rattle.check_recursion.specs.declared.steps.View.{View}
use Rattle.check_recursion.specs.Edges.{Known}

abbrev pub known : Table → View → Known
known t v = record { texts = t.texts; rows = t.rows; kinds = v.kinds.now; places = v.closed.now.places.items; meanings = v.closed.now.meanings.items; openings = v.openings.now; parts = v.parts.now; choosable = v.choosable.now; may_be_empty = v.may_be_empty.now }
