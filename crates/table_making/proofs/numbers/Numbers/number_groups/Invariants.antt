use Rattle.std.proofs.Common.{drop}
use Rattle.table_making.specs.Numbers.{IsGroupAt, keys_of}
use Rattle.table_making.specs.Origins.{IsGroupOrigin}
use Rattle.table_making.proofs.Numbering.{IsNumbering}
use Rattle.table_making.proofs.numbers.Numbers.number_groups.Given as goal

abbrev pub invariant-loop-origin : goal.invariant-loop-origin
invariant-loop-origin l = IsNumbering IsGroupAt IsGroupOrigin (keys_of l.fn.self) (keys_of l.self) l.origins (drop l.origin-index l.origins) l.numbers.items
