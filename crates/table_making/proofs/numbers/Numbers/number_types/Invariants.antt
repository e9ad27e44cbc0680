use Rattle.std.proofs.Common.{drop}
use Rattle.table_making.specs.Numbers.{IsTypeAt, keys_of}
use Rattle.table_making.specs.Origins.{IsTypeOrigin}
use Rattle.table_making.proofs.Numbering.{IsNumbering}
use Rattle.table_making.proofs.numbers.Numbers.number_types.Given as goal

abbrev pub invariant-loop-origin : goal.invariant-loop-origin
invariant-loop-origin l = IsNumbering IsTypeAt IsTypeOrigin (keys_of l.fn.self) (keys_of l.self) l.origins (drop l.origin-index l.origins) l.numbers.items
