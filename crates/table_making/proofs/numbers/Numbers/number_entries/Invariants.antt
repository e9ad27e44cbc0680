use Rattle.std.proofs.Common.{drop}
use Rattle.table_making.specs.Numbers.{IsEntryAt, keys_of}
use Rattle.table_making.specs.Origins.{IsEntryOf}
use Rattle.table_making.proofs.Numbering.{IsNumbering}
use Rattle.table_making.proofs.numbers.Numbers.number_entries.Given as goal

abbrev pub invariant-loop-form : goal.invariant-loop-form
invariant-loop-form l = IsNumbering IsEntryAt IsEntryOf (keys_of l.fn.self) (keys_of l.self) l.forms (drop l.form-index l.forms) l.entries.items
