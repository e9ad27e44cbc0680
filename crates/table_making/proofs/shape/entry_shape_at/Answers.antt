use Rattle.std.proofs.Common.{sym, subst}
use Rattle.table_making.specs.Shapes.{IsEntryShape}
use Rattle.table_making.proofs.Shaping.{entry_shape_there}
use Rattle.table_making.proofs.shape.entry_shape_at.Goals as goal

pub returns-in-Some : goal.returns-in-Some
returns-in-Some c x h = subst (IsEntryShape c.args.terms.now x) (sym c.entry_shape_of.ensures) (entry_shape_there c.args.terms.now c.args.number x c.in-Some.row c.in-Some.ensures h)
