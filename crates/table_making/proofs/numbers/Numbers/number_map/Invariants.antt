use Rattle.std.proofs.Common.{drop}
use Rattle.table_making.specs.Numbers.{AreEntriesAt, AreEntriesOf, keys_of}
use Rattle.table_making.proofs.Numbering.{IsNumbering}
use Rattle.table_making.proofs.numbers.Numbers.number_map.Given as goal

abbrev pub invariant-loop-alternative : goal.invariant-loop-alternative
invariant-loop-alternative l = IsNumbering AreEntriesAt AreEntriesOf (keys_of l.fn.self) (keys_of l.self) l.forms (drop l.alternative-index l.forms) l.alternatives.items
